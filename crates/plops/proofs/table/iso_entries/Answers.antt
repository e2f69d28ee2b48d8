use Rattle.std.proofs.Common.{[], ◌∷◌, codes, ap, ◌∙◌}
use Rattle.plops.specs.declared.operator.Kind.TheVariants.{Xfx, Xfy, Yfx, Fx, Fy}
use Rattle.plops.specs.Given.{with_names, iso_table}
use Rattle.plops.proofs.table.iso_entries.Goals as goal

pub returns : goal.returns
unfolding iso_table
returns c =
    let row1 = c.in_ok-declare.ensures.names ∙ ap (with_names 1200 Xfx (codes ":-" ∷ codes "-->" ∷ [])) c.new-entries.ensures.items in
    let row2 = c.in_ok-declare-2.ensures.names ∙ ap (with_names 1200 Fx (codes ":-" ∷ codes "?-" ∷ [])) row1 in
    let row3 = c.in_ok-declare-3.ensures.names ∙ ap (with_names 1150 Fx (codes "dynamic" ∷ codes "discontiguous" ∷ codes "initialization" ∷ codes "multifile" ∷ codes "thread_local" ∷ [])) row2 in
    let row4 = c.in_ok-declare-4.ensures.names ∙ ap (with_names 1100 Xfy (codes ";" ∷ [])) row3 in
    let row5 = c.in_ok-declare-5.ensures.names ∙ ap (with_names 1050 Xfy (codes "->" ∷ [])) row4 in
    let row6 = c.in_ok-declare-6.ensures.names ∙ ap (with_names 1000 Xfy (codes "," ∷ [])) row5 in
    let row7 = c.in_ok-declare-7.ensures.names ∙ ap (with_names 900 Fy (codes "\\+" ∷ [])) row6 in
    let row8 = c.in_ok-declare-8.ensures.names ∙ ap (with_names 700 Xfx (codes "=" ∷ codes "\\=" ∷ codes "==" ∷ codes "\\==" ∷ [])) row7 in
    let row9 = c.in_ok-declare-9.ensures.names ∙ ap (with_names 700 Xfx (codes "@<" ∷ codes "@=<" ∷ codes "@>" ∷ codes "@>=" ∷ codes "=.." ∷ codes "is" ∷ [])) row8 in
    let row10 = c.in_ok-declare-10.ensures.names ∙ ap (with_names 700 Xfx (codes "=:=" ∷ codes "=\\=" ∷ codes "<" ∷ codes "=<" ∷ codes ">" ∷ codes ">=" ∷ [])) row9 in
    let row11 = c.in_ok-declare-11.ensures.names ∙ ap (with_names 500 Yfx (codes "+" ∷ codes "-" ∷ codes "/\\" ∷ codes "\\/" ∷ [])) row10 in
    let row12 = c.in_ok-declare-12.ensures.names ∙ ap (with_names 400 Yfx (codes "*" ∷ codes "/" ∷ codes "//" ∷ codes "rem" ∷ codes "mod" ∷ codes "<<" ∷ codes ">>" ∷ [])) row11 in
    let row13 = c.in_ok-declare-13.ensures.names ∙ ap (with_names 200 Xfx (codes "**" ∷ [])) row12 in
    let row14 = c.in_ok-declare-14.ensures.names ∙ ap (with_names 200 Xfy (codes "^" ∷ [])) row13 in
    let row15 = c.in_ok-declare-15.ensures.names ∙ ap (with_names 200 Fy (codes "-" ∷ codes "\\" ∷ [])) row14 in
    row15
