use Rattle.std.proofs.Common.{sym, ap}
use Rattle.plbuiltin.specs.Current.{kind_name}
use Rattle.pltexts.proofs.current.kind_name.Goals as goal

pub returns-in-Xfx : goal.returns-in-Xfx
returns-in-Xfx c = sym (ap kind_name c.in-Xfx.is)

pub returns-in-Xfy : goal.returns-in-Xfy
returns-in-Xfy c = sym (ap kind_name c.in-Xfy.is)

pub returns-in-Yfx : goal.returns-in-Yfx
returns-in-Yfx c = sym (ap kind_name c.in-Yfx.is)

pub returns-in-Fx : goal.returns-in-Fx
returns-in-Fx c = sym (ap kind_name c.in-Fx.is)

pub returns-in-Fy : goal.returns-in-Fy
returns-in-Fy c = sym (ap kind_name c.in-Fy.is)

pub returns-in-Xf : goal.returns-in-Xf
returns-in-Xf c = sym (ap kind_name c.in-Xf.is)

pub returns-in-Yf : goal.returns-in-Yf
returns-in-Yf c = sym (ap kind_name c.in-Yf.is)
