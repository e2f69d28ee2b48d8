use Rattle.plmatch.proofs.Instances.{instance_fits, fits_instance, apart_fits, fits_apart}
use Rattle.plmatch.proofs.laws.fits_law.Goals as goal

pub returns-clause-instance : goal.returns-clause-instance
returns-clause-instance c = λ p m canonical. (fits_instance p m, instance_fits p m canonical)

pub returns-clause-apart : goal.returns-clause-apart
returns-clause-apart c = λ p m canonical. (fits_apart p m canonical, apart_fits p m)
