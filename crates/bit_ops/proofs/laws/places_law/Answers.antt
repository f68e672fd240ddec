use Rattle.bit_ops.proofs.PlaceLaws.{put_back, read_back, others_stay}
use Rattle.bit_ops.proofs.laws.places_law.Goals as goal

pub returns-clause-back : goal.returns-clause-back
returns-clause-back c = λ v w n z fits. put_back v w n z fits

pub returns-clause-part : goal.returns-clause-part
returns-clause-part c = λ v k w b n fits few within. read_back v k w b n fits few within

pub returns-clause-beside : goal.returns-clause-beside
returns-clause-beside c = λ v w k b n fits. others_stay v w k b n fits
