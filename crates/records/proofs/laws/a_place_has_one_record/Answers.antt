use Rattle.records.proofs.Splitting.{one_stands, none_stands}
use Rattle.records.proofs.laws.a_place_has_one_record.Goals as goal

pub returns : goal.returns
returns c = record { one = one_stands; none = none_stands }
