-- The search, over the table's rows: it is the same whatever rows the table has.
use Rattle.std.specs.Prelude.{ℕ, zero, suc, ◌+◌, if◌then◌else◌, List, [], ◌∷◌, length, nat_eq}
use Rattle.plevent.specs.Search.{Item, Ask, Answer}
use Rattle.plevent.specs.declared.request.Request.TheVariants.{Publish}
use Rattle.plevent.specs.declared.update.Update.{Update}
use Rattle.plprogram.specs.Program.{Program}
use Rattle.plsearch.specs.Types.{Result, Stop, Fail, CutTo, Spent, Awaits, GoesOn, Await, Element, Asking, Resolvent, Case, Choice, Mark, Handle, Local, Move, Give, Go, Meeting, Select, Asks, End, Pass, Marked, Return, Keep, Again, Anew, Supply}
use Rattle.plsearch.specs.Rows.{select, meet}
use Rattle.plsearch.specs.Replies.{answered, founded}
use Rattle.plsearch.specs.Handlers.{resume}

-- a visit's end, and what the thread then has
abbrev pub Ended : Type 0
Ended = Result × Supply

-- visits a place at a depth: the number of cases that are open outside of it
abbrev pub Visitor : Type 0
Visitor = ℕ → Resolvent → Supply → Ended

-- a cut to the level d ends there
abbrev pub stop_cut : ℕ → Result → Result
stop_cut d (CutTo l) = if nat_eq l d then Fail else CutTo l
stop_cut d r = r

-- behind a mark Fail is a cut to its level
abbrev pub mark : ℕ → Result → Result
mark l Fail = CutTo l
mark l r = r

-- the choice at the level d, whose list gave r: the next place on Fail
unfoldable pub choice : Visitor → ℕ → List Resolvent → Result → Supply → Ended
choice next d (p ∷ ps) Fail run = let e = next (suc d) p run in choice next d ps e.0 e.1
choice next d (p ∷ ps) r run = (stop_cut d r, run)
choice next d [] r run = (stop_cut d r, run)

abbrev pub returned : Visitor → ℕ → Return → Supply → Ended
returned next d (Keep r w) run = (r, record run { local = w })
returned next d (Again p w) run = next d p (record run { local = w })
returned next d (Anew p w) run = let e = next (suc d) p (record run { local = w }) in choice next d [] e.0 e.1

-- what the case at the level d makes of the end of its list
unfoldable pub out : Visitor → ℕ → Case → Ended → Ended
unfolding choice
out next d (Choice ps) e = choice next d ps e.0 e.1
out next d (Mark l) e = (mark l e.0, e.1)
out next d (Handle h p) e = returned next d (resume h p d e.0 e.1.local) e.1

-- the depth inside of some cases that are open at the depth d
abbrev pub deeper : List Case → ℕ → ℕ
deeper [] d = d
deeper (c ∷ cs) d = suc (deeper cs d)

-- what the cases at the levels from d up make of it, the innermost first
unfoldable pub outs : Visitor → ℕ → List Case → Ended → Ended
unfolding out
outs next d [] e = e
outs next d (c ∷ cs) e = outs next d cs (out next (deeper cs d) c e)

unfoldable pub moved : Visitor → ℕ → Move → Supply → Ended
unfolding outs
moved next d (Give r w) run = (r, record run { local = w })
moved next d (Go cs p w) run = outs next d cs (next (deeper cs d) p (record run { local = w }))

-- a goal takes a step
abbrev pub stepped : Visitor → (Local → Move) → ℕ → Supply → ℕ → Ended
stepped next row d run zero = (Spent, run)
stepped next row d run (suc n) = moved next d (row run.local) (record run { steps = n })

-- an element takes the answer to its item
abbrev pub asks : Visitor → Element → List Element → ℕ → Item → ℕ → Supply → List Answer → Ended
asks next e es n q d run [] = (Awaits q, run)
asks next e es n q d run (a ∷ more) = moved next d (answered e a d es n run.local) (record run { answers = more; below = founded e a run.below })

-- updates are published, if there are any, and then the list goes on
abbrev pub publishes : Visitor → (ℕ → Supply → Ended) → List Element → ℕ → List Update → ℕ → Supply → Ended
publishes next on es n [] d run = on d run
publishes next on es n (u ∷ us) d run = asks next (Asking (Await (Publish (u ∷ us)) GoesOn)) es n (Ask (Publish (u ∷ us))) d run run.answers

-- the first of a list, where `on` visits what is behind it
abbrev pub met : Program → Visitor → (ℕ → Supply → Ended) → Element → List Element → ℕ → ℕ → Supply → Meeting → Ended
met P next on e es n d run (Select k t) = stepped next (select P run.below k t d es n) d run run.steps
met P next on e es n d run (Asks q) = asks next e es n q d run run.answers
met P next on e es n d run (End r w) = (r, record run { local = w })
met P next on e es n d run (Pass w) = on d (record run { local = w })
met P next on e es n d run (Marked l us w) = out next d (Mark l) (publishes next on es n us (suc d) (record run { local = w }))

-- a goal list: markers are passed without a step; what comes behind a step or an answer is visited by next
unfoldable pub walk : Program → Visitor → List Element → ℕ → ℕ → Supply → Ended
walk P next [] n d run = (Stop, run)
walk P next (e ∷ es) n d run = met P next (walk P next es n) e es n d run (meet e es run.local)

-- with at most k steps and answers
unfoldable pub visit_in : Program → ℕ → Visitor
unfolding walk
visit_in P zero d p run = walk P (λ d p run. (Spent, run)) p.goals p.variables d run
visit_in P (suc k) d p run = walk P (visit_in P k) p.goals p.variables d run

-- the steps and answers left
abbrev pub left : Supply → ℕ
left run = run.steps + length run.answers

-- the search from a place, at a depth
unfoldable pub Visit : Program → Visitor
unfolding visit_in
Visit P d p run = visit_in P (left run) d p run
