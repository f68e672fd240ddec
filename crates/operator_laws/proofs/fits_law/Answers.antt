use Rattle.operator_laws.proofs.Fits.{operators_fit}
use Rattle.operator_laws.proofs.fits_law.Goals as goal

pub returns : goal.returns
returns c = operators_fit
