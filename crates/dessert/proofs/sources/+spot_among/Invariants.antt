use Rattle.std.proofs.Common.{length}
use Rattle.dessert.proofs.sources.+spot_among.Given as goal

abbrev pub decreases-spot_among : goal.decreases-spot_among
decreases-spot_among l = length l.names.now
