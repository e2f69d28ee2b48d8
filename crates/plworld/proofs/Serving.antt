-- What a world that is not stopped answers and adds.
use Rattle.std.proofs.Common.{◌≡◌, ◌++◌, ◌∙◌, ℕ, [], ap}
use Rattle.plevent.specs.declared.request.Request.{Request}
use Rattle.plevent.specs.declared.request.Reply.{Reply}
use Rattle.plevent.specs.Alive.{change_if}
use Rattle.plevent.specs.Rows.{adds, reply_to}
use Rattle.plworld.specs.Worlds.{Shared, IsServing, reply_in, adds_in}

pub replies-in : (s : Shared) (t : ℕ) (q : Request) → IsServing s → reply_in s t q ≡ reply_to s.journal t q
replies-in s t q is = ap (λ b. change_if b Reply.Shut (reply_to s.journal t q)) is

pub grows-in : (s new : Shared) (w t : ℕ) (q : Request) → IsServing s → new ≡ record s { journal = s.journal ++ adds_in s w t q } → new.journal ≡ s.journal ++ adds s.journal w t q
grows-in s new w t q is grown = ap (λ x. x.journal) grown ∙ ap (λ b. s.journal ++ change_if b [] (adds s.journal w t q)) is
