use Rattle.law.proofs.Fitting.{every_row_fits}
use Rattle.law.proofs.every_row_fits_its_format.Goals as goal

pub returns : goal.returns
returns c = search every_row_fits
