-- The last item of a thread, and how its run then ends.
use Rattle.std.proofs.Common.{◌≡◌, ℕ, suc, List, [], ◌∷◌, ◌++◌, length, Some, refl, ap, ◌∙◌}
use Rattle.plevent.specs.declared.request.ThreadEnd.{ThreadEnd}
use Rattle.plevent.specs.declared.request.Reply.{Reply}
use Rattle.plevent.specs.declared.act.Entry.{Entry}
use Rattle.plevent.specs.Reading.{reading}
use Rattle.plevent.specs.Rows.{served}
use Rattle.plevent.specs.Search.{Ask, Got, Search, item_of, item_of_end}
use Rattle.plhist.specs.declared.history.RunEnd.{RunEnd}
use Rattle.plhist.specs.Follows.{replied, HasAsked, HasEnded, from_start, asks_of, last_of}
use Rattle.plsearch.specs.Solving.{EndsAt}
use Rattle.plstore.specs.Looking.{Views}
use Rattle.plrun.specs.Going.{Going, views_of}
use Rattle.plrun.proofs.Grow.{takes-grow}
use Rattle.plrun.proofs.Steps.{asks-same, answer-ask, own-grows, own-views}
use Rattle.plrun.proofs.Rows.{act_of}

-- the last request was answered Done, at the journal's length
unfoldable pub asked-last : (search : Search) (limit : ℕ) (rest : Views → Search) (used : ℕ) (h : List Entry) (t w : ℕ) (places : List ℕ) (e : ThreadEnd) →
    item_of (rest (views_of h) limit []).next ≡ Some (Ask (last_of e)) → served (last_of e) t (reading h) ≡ (Reply.Done, Some (t, act_of e)) → Going search limit rest used h t places →
    HasAsked search limit (h ++ record { worker = w; thread = t; act = act_of e } ∷ []) t (places ++ length h ∷ []) e
asked-last search limit rest used h t w places e asks row g =
    let s = g.state in
    let more : List Entry = record { worker = w; thread = t; act = act_of e } ∷ [] in record {
      earlier = places;
      final = length h;
      split = refl;
      start = g.start;
      before = s;
      items = takes-grow (asks_of search limit) h more t places (from_start g.start) s (g.items limit g.within);
      asks = ap item_of (asks-same search (rest (views_of h)) limit used s.answers (rest (views_of h) limit []).next (g.rests (views_of h) (own-views h)) g.within refl) ∙ asks;
      last = record { answers = s.answers ++ Got Reply.Done ∷ []; low = suc (length h); made = s.made ++ (length h, act_of e) ∷ [] };
      finished = answer-ask h more t (last_of e) s g.low ∙ ap (λ r. replied r (length h) s) row;
      told = refl;
      entries = own-grows h t w (act_of e) g.start s.made g.owns;
    }

-- the end was told
pub ended-told : (search : Search) (limit : ℕ) (rest : Views → Search) (used : ℕ) (h : List Entry) (t w : ℕ) (places : List ℕ) (e : ThreadEnd) (out : List ℕ) →
    item_of_end e ≡ Some (Ask (last_of e)) → ((v : Views) → EndsAt limit e (rest v) used out) → served (last_of e) t (reading h) ≡ (Reply.Done, Some (t, act_of e)) → Going search limit rest used h t places →
    HasEnded search limit (h ++ record { worker = w; thread = t; act = act_of e } ∷ []) (record { thread = t; places = places ++ length h ∷ []; steps = used; «end» = RunEnd.Ended e; output = out }) e
unfolding asked-last
ended-told search limit rest used h t w places e out item says row g = record {
  asked = asked-last search limit rest used h t w places e (ap (λ x. item_of x.next) ((says (views_of h)).1 []) ∙ item) row g;
  ends = g.rests (views_of h) (own-views h) limit (Got Reply.Done ∷ []) g.within ∙ (says (views_of h)).1 (Got Reply.Done ∷ []);
}
