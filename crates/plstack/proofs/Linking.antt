-- An item before a list, as it is put behind the links.
use Rattle.std.proofs.Common.{◌≡◌, ℕ, ◌+◌, Bool, true, false, List, [], ◌∷◌, ◌++◌, length, refl, sym, ap, ◌∙◌, subst, append_assoc, append-nil, None, Some}
use Rattle.plterm.specs.Tree.{Tree}
use Rattle.plcells.specs.declared.cell.Cell.{Cell}
use Rattle.plsearch.specs.Types.{Element, Goal}
use Rattle.plsearch.specs.Moves.{before_rest}
use Rattle.pllinks.specs.declared.item.Portion.{Portion}
use Rattle.pllinks.specs.declared.item.Portion.TheVariants as items
use Rattle.pllinks.specs.declared.link.Link.{Link}
use Rattle.pllinks.specs.declared.link.Continuation.{Continuation}
use Rattle.pllinks.specs.Links.{alone, link_to, IsChain, Numbers}
use Rattle.pllinks.proofs.Arena.{chain-push}
use Rattle.plstack.specs.Linking.{LinksItem}
use Rattle.plstack.specs.State.{IsList, goals_of}
use Rattle.plstack.specs.Trials.{ListsBody}
use Rattle.plstack.proofs.Lists.{item-before}

module _ (links mid new : List Link) (x : Portion) (rest : Continuation) (behind m : ℕ) (number : Numbers links mid rest behind) (pushed : new ≡ mid ++ link_to mid x behind ∷ []) (place : m ≡ length mid + 1) where
  pub links-item : LinksItem links new x rest (alone m)
  links-item = record {
    more = number.more ++ link_to mid x behind ∷ [];
    is = pushed ∙ ap (λ ks. ks ++ link_to mid x behind ∷ []) number.is ∙ append_assoc links number.more (link_to mid x behind ∷ []);
    chain = λ c. subst IsChain (sym pushed) (chain-push mid x behind (number.chain c) number.there);
    adds = λ s is same there fits. item-before s is mid rest behind there (subst (λ ls. Numbers ls mid rest behind) (sym same) number) x fits new m pushed place;
  }

-- a body before it, and no body
before-goal : (none : Bool) → none ≡ false → (level : ℕ) (t : Tree) (es : List Element) → Goal level t ∷ es ≡ before_rest none level t es
before-goal none e level t es = rw e refl

before-none : (none : Bool) → none ≡ true → (level : ℕ) (t : Tree) (es : List Element) → es ≡ before_rest none level t es
before-none none e level t es = rw e refl

pub lists-goal : (links new : List Link) (level : ℕ) (body : Cell) (rest list : Continuation) → LinksItem links new (items.Goal level body) rest list → ListsBody links new level (Some body) rest list
lists-goal links new level body rest list i = record {
  more = i.more;
  is = i.is;
  chain = i.chain;
  there = λ s is same there none t b.
      let a = i.adds s is same there b.1 in
      (a.there, a.is ∙ ap (λ u. Goal level u ∷ goals_of s rest) b.2 ∙ before-goal none b.0 level t (goals_of s rest));
}

pub lists-none : (links : List Link) (level : ℕ) (rest : Continuation) → ListsBody links links level None rest rest
lists-none links level rest = record {
  more = [];
  is = sym (append-nil links);
  chain = λ c. c;
  there = λ s is same there none t b.
      subst (λ ls. IsList (record s { links = ls }) rest × (goals_of (record s { links = ls }) rest ≡ before_rest none level t (goals_of s rest))) same
      (there, before-none none b level t (goals_of s rest));
}
