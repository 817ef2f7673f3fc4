-- The worked figures of the rules, together.
use Rattle.cases.specs.Credit.{CreditFigures}
use Rattle.cases.specs.Room.{RoomFigures}

pub record WorkedFigures : Type 0 where
  pub credit : CreditFigures
  pub room : RoomFigures
