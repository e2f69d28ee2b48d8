-- Walks among open cases, where frames are put on a stack and taken off.
use Rattle.std.proofs.Common.{◌≡◌, ℕ, List, [], ◌∷◌, ◌++◌, take, drop, reverse, Option, None, Some, refl, sym, ap, ◌∙◌, append_assoc, take-append-drop}
use Rattle.std.proofs.lemmas.List.{reverse-append}
use Rattle.plgenerator.specs.declared.turn.Remaining.{Remaining}
use Rattle.plstack.specs.declared.frame.Point.{Point}
use Rattle.plstack.specs.declared.frame.Spot.{Spot}
use Rattle.plstack.specs.declared.frame.Walk.{Walk}
use Rattle.plstack.specs.declared.frame.Clauses.{Clauses}
use Rattle.plstack.specs.declared.frame.Resume.{Resume}
use Rattle.plstack.specs.declared.frame.Resume.TheVariants as resumes
use Rattle.plstack.specs.declared.frame.Frame.{Frame}
use Rattle.plstack.specs.declared.frame.Frame.TheVariants.{Plain, Open}
use Rattle.plstack.specs.Places.{walk_of, walks_of}
use Rattle.plstack.specs.State.{State, walks_in, CountsUp, EndsWalks, HasClauses, IsClauses}
use Rattle.plstack.specs.StaticCalls.{PushesCall}
use Rattle.plstack.specs.Answering.{PushesAnswers}
use Rattle.plstack.specs.Walks.{IsWalking, Moves}
use Rattle.plstack.proofs.Frames.{reverse-push}
use Rattle.plstack.proofs.Stacks.{is-last}

-- a frame that was put on
pub pushed-walks : (frames rest : List Frame) (f : Frame) → frames ≡ rest ++ f ∷ [] → walks_of (reverse frames) ≡ walks_of (f ∷ reverse rest)
pushed-walks frames rest f pushed = ap (λ fs. walks_of (reverse fs)) pushed ∙ ap walks_of (reverse-push rest f)

-- a frame of no walk that was taken off, or was another in its place
pub other-walks : (frames gs rest : List Frame) (f g : Frame) → frames ≡ rest ++ f ∷ [] → gs ≡ rest ++ g ∷ [] → walks_of (f ∷ reverse rest) ≡ walks_of (g ∷ reverse rest) → walks_of (reverse gs) ≡ walks_of (reverse frames)
other-walks frames gs rest f g was is same = pushed-walks gs rest g is ∙ sym same ∙ sym (pushed-walks frames rest f was)

-- so many more choices with nothing left, where it stood
pub counted-walks : (frames gs rest : List Frame) (f : Frame) (n : ℕ) → frames ≡ rest ++ f ∷ [] → walks_of (f ∷ reverse rest) ≡ walks_of (reverse rest) → CountsUp n (reverse rest) (reverse gs) → walks_of (reverse gs) ≡ walks_of (reverse frames)
counted-walks frames gs rest f n was none up = up.walks ∙ sym none ∙ sym (pushed-walks frames rest f was)

walks-append : (fs gs : List Frame) → walks_of (fs ++ gs) ≡ walks_of fs ++ walks_of gs
walks-append [] gs = refl
walks-append (Plain n ∷ fs) gs = walks-append fs gs
walks-append (Open p r ∷ fs) gs = ap (λ ws. walk_of r ++ ws) (walks-append fs gs) ∙ sym (append_assoc (walk_of r) (walks_of fs) (walks_of gs))

-- the frames from one on were taken off
pub ends-from : (s : State) (i n : ℕ) (frames : List Frame) → CountsUp n (reverse (take i s.frames)) (reverse frames) → EndsWalks s (record s { frames = frames })
ends-from s i n frames up = (
  walks_of (reverse (drop i s.frames)),
  ap (λ fs. walks_of (reverse fs)) (sym (take-append-drop i s.frames))
      ∙ ap walks_of (reverse-append (take i s.frames) (drop i s.frames))
      ∙ walks-append (reverse (drop i s.frames)) (reverse (take i s.frames))
      ∙ ap (λ ws. walks_of (reverse (drop i s.frames)) ++ ws) (sym up.walks),
)

-- the newest case, which came back to something, was taken off
pub ends-open : (s : State) (rest : List Frame) (p : Point) (r : Resume) → s.frames ≡ rest ++ Open p r ∷ [] → EndsWalks s (record s { frames = rest })
ends-open s rest p r popped = (walk_of r, pushed-walks s.frames rest (Open p r) popped)

-- a call's clauses or answers that are left
pub call-walks : (p : Point) (c : Clauses) (next : Option ℕ) (old new : List Frame) → PushesCall p c next old new → walks_of (reverse new) ≡ walks_of (reverse old)
call-walks p c (Some next) old new pushes = pushed-walks new old (Open p (resumes.Clauses (record { procedure = c.procedure; count = c.count; next = next }))) pushes
call-walks p c None old new up = up.walks

pub answer-walks : (p : Point) (count : ℕ) (rest : Option Remaining) (old new : List Frame) → PushesAnswers p count rest old new → walks_of (reverse new) ≡ walks_of (reverse old)
answer-walks p count (Some turn) old new pushes = pushed-walks new old (Open p (resumes.Answers (record { count = count; turn = turn }))) pushes
answer-walks p count None old new up = up.walks

-- the newest case was this, whatever else was taken for it
pub taken-walks : (s : State) (p : Point) (r : Resume) (was rest : List Frame) (f : Frame) → s.frames ≡ was ++ Open p r ∷ [] → s.frames ≡ rest ++ f ∷ [] → walks_in s ≡ walk_of r ++ walks_of (reverse rest)
taken-walks s p r was rest f top taken =
    let e : Open p r ∷ reverse was ≡ f ∷ reverse rest = sym (ap reverse top ∙ reverse-push was (Open p r)) ∙ ap reverse taken ∙ reverse-push rest f in
    let same : reverse was ≡ reverse rest = cc in
    pushed-walks s.frames was (Open p r) top ∙ ap (λ fs. walk_of r ++ walks_of fs) same

-- a call of a static procedure was taken off
pub left-walks : (s : State) (rest : List Frame) (f : Frame) → s.frames ≡ rest ++ f ∷ [] → HasClauses s → walks_in s ≡ walks_of (reverse rest)
left-walks s rest f popped has = pushed-walks s.frames rest f popped ∙ none f (is-last IsClauses s.frames rest f popped has)
  where
    none : (f : Frame) → IsClauses f → walks_of (f ∷ reverse rest) ≡ walks_of (reverse rest)
    none (Plain n) i = absurd i
    none (Open p (resumes.Clauses c)) i = refl
    none (Open p (resumes.Walk w)) i = absurd i
    none (Open p (resumes.Answers a)) i = absurd i
    none (Open p resumes.List) i = absurd i
    none (Open p (resumes.Handle x)) i = absurd i

-- ---- the innermost walk

module _ (s new : State) (p : Point) (w : Walk) (walking : IsWalking s p w) (rest : List Frame) (f : Frame) (taken : s.frames ≡ rest ++ f ∷ []) where
  pub moves-on : (spot : Spot) → new.frames ≡ rest ++ Open p (resumes.Walk (record { goal = w.goal; uses = w.uses; spot = spot })) ∷ [] → Moves s new w (Some spot)
  moves-on spot pushed = record {
    more = walks_of (reverse rest);
    was = taken-walks s p (resumes.Walk w) walking.rest rest f walking.top taken;
    walks = pushed-walks new.frames rest (Open p (resumes.Walk (record { goal = w.goal; uses = w.uses; spot = spot }))) pushed;
  }

  pub moves-off : CountsUp 1 (reverse rest) (reverse new.frames) → Moves s new w None
  moves-off up = record {
    more = walks_of (reverse rest);
    was = taken-walks s p (resumes.Walk w) walking.rest rest f walking.top taken;
    walks = up.walks;
  }

-- so it moves where the frames are the same
pub moves-between : (s mid then new : State) (w : Walk) (next : Option Spot) → mid.frames ≡ s.frames → new.frames ≡ then.frames → Moves mid then w next → Moves s new w next
moves-between s mid then new w next before after m = record {
  more = m.more;
  was = ap (λ fs. walks_of (reverse fs)) (sym before) ∙ m.was;
  walks = ap (λ fs. walks_of (reverse fs)) after ∙ m.walks;
}
