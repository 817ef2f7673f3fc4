use Rattle.files.proofs.Splitting.{splits_one_way}
use Rattle.files.proofs.laws.a_file_splits_one_way.Goals as goal

pub returns : goal.returns
returns c = record { one_way = splits_one_way }
