-- A share as its chunks come and go.
use Rattle.std.proofs.Common.{◌≡◌, ◌≢◌, false, ℕ, ◌+◌, ◌-◌, ◌*◌, ◌/◌, ◌<◌, ◌≤◌, Option, Some, None, is_some, IsSome, List, [], length, refl, sym, ap, subst, ◌∙◌, arith}
use Rattle.std.proofs.lemmas.Bool.{false_from_ne_true}
use Rattle.std_alloc.specs.Arc.{arc_value}
use Rattle.atomic_table.specs.Seated.{TableId}
use Rattle.word_map.specs.WordMap.{WordMap, at, is_within, Disjoint, HasJust, range_of, rest_of, union}
use Rattle.word_map.proofs.Maps.{at-rest_out, same_answers, within_is}
use Rattle.region_words.specs.Parts.{Owned, owned}
use Rattle.slab.specs.Slab.{Slab, Updates, get}
use Rattle.lock_book.specs.Shown.{Belongs}
use Rattle.c_area.specs.Shares.{IsHeld, IsIn, IsShare, chunk_of, extent}
use Rattle.c_area.specs.Tries.{Gains, SameChunks}
use Rattle.c_area.specs.declared.shared.Extent.{Extent}
use Rattle.c_area.specs.declared.shared.Share.{Share}
use Rattle.c_area.proofs.Chunks.{back_again, come_apart, come_fresh, come_held, come_mine, come_rest, one_extent, went_apart, went_gone, went_held, went_rest}

-- a share that has another pass
pub repassed : (s : Share) (p : _) → IsShare s → Belongs (arc_value s.shared).shelf p → IsShare (record s { pass = p })
repassed s p w own = record { shared = w.shared; own = own; others = w.others; here = w.here; held = w.held; apart = w.apart }

-- a share that has more room for numbers
pub reserved : (s : Share) (c' : Slab Extent) → IsShare s → ((i : ℕ) → get c' i ≡ get s.chunks i) → IsShare (record s { chunks = c' })
reserved s c' w same = record {
  shared = w.shared;
  own = w.own;
  others = w.others;
  here = w.here;
  held = λ i e at. w.held i e (sym (same i) ∙ at);
  apart = λ i j d e p q ne k. w.apart i j d e (sym (same i) ∙ p) (sym (same j) ∙ q) ne k;
}

-- a share whose words hold others
pub rewritten : (s : Share) (o : Owned) → IsShare s → o.region ≡ s.words.region → ((k : ℕ) → is_some (at o.words k) ≡ is_some (at s.words.words k)) → IsShare (record s { words = o })
rewritten s o w region keys = record {
  shared = w.shared;
  own = w.own;
  others = w.others;
  here = region ∙ w.here;
  held = λ i e there. let h = w.held i e there in record { valid = h.valid; some = h.some; has = λ k i. keys k ∙ h.has k i };
  apart = w.apart;
}

-- a share to which a chunk came, and one from which a chunk went
module _ (s : Share) (w : IsShare s) (c' : Slab Extent) (number : ℕ) (e : Extent) where
  pub share_with : (n : WordMap) → 0 < e.at → 0 < e.words → HasJust n e.at e.words → Disjoint s.words.words n → get s.chunks number ≡ None → Updates s.chunks c' number (Some e)
      → IsShare (record s { words = owned s.words.region (union s.words.words n); chunks = c' })
  share_with n valid some just dis vacant ups = record {
    shared = w.shared;
    own = w.own;
    others = w.others;
    here = w.here;
    held = come_held s.words.words n s.chunks c' number e just dis vacant ups valid some w.held;
    apart = come_apart s.words.words n s.chunks c' number e just dis vacant ups w.held w.apart;
  }

  pub gains_with : (n : WordMap) → HasJust n e.at e.words → Disjoint s.words.words n → get s.chunks number ≡ None → Updates s.chunks c' number (Some e)
      → Gains s (record s { words = owned s.words.region (union s.words.words n); chunks = c' }) number e
  gains_with n just dis vacant ups = record {
    new = vacant;
    there = ups.changed;
    others = ups.others;
    fresh = come_fresh s.words.words n s.chunks c' number e just dis vacant ups;
    mine = come_mine s.words.words n s.chunks c' number e just dis vacant ups;
    rest = come_rest s.words.words n s.chunks c' number e just dis vacant ups;
  }

  pub share_without : get s.chunks number ≡ Some e → Updates s.chunks c' number None → IsShare (record s { words = owned s.words.region (rest_of s.words.words e.at e.words); chunks = c' })
  share_without there ups = record {
    shared = w.shared;
    own = w.own;
    others = w.others;
    here = w.here;
    held = went_held s.words.words s.chunks c' number e there ups w.held w.apart;
    apart = went_apart s.words.words s.chunks c' number e there ups w.apart;
  }

  pub gains_without : get s.chunks number ≡ Some e → Updates s.chunks c' number None → Gains (record s { words = owned s.words.region (rest_of s.words.words e.at e.words); chunks = c' }) s number e
  gains_without there ups = record {
    new = ups.changed;
    there = there;
    others = λ other ne. sym (ups.others other ne);
    fresh = went_gone s.words.words s.chunks c' number e there ups;
    mine = (w.held number e there).has;
    rest = went_rest s.words.words s.chunks c' number e there ups;
  }

-- what a chunk adds depends on the shares' chunks and words alone
pub gains_of : (s s' t t' : Share) (number : ℕ) (e : Extent) → ((i : ℕ) → chunk_of s' i ≡ chunk_of s i) → s'.words ≡ s.words → ((i : ℕ) → chunk_of t' i ≡ chunk_of t i) → t'.words ≡ t.words → Gains s t number e → Gains s' t' number e
gains_of s s' t t' number e chunks words chunks' words' g = record {
  new = chunks number ∙ g.new;
  there = chunks' number ∙ g.there;
  others = λ other ne. chunks' other ∙ (g.others other ne ∙ sym (chunks other));
  fresh = λ k i. ap (λ (o : Owned). at o.words k) words ∙ g.fresh k i;
  mine = λ k i. subst (λ (o : Owned). IsSome (at o.words k)) (sym words') (g.mine k i);
  rest = λ k out. ap (λ (o : Owned). at o.words k) words' ∙ (g.rest k out ∙ sym (ap (λ (o : Owned). at o.words k) words));
}

-- no words are cut off
pub none_cut : (region : TableId) (m : WordMap) → owned region (rest_of m 0 0) ≡ owned region m
none_cut region m = ap (owned region) (same_answers (rest_of m 0 0) m (λ k. at-rest_out m 0 0 k (outside k)))
  where
    outside : (k : ℕ) → is_within 0 0 k ≡ false
    outside k = false_from_ne_true (is_within 0 0 k) (λ t. let i = within_is 0 0 k t in omega (arith, i.1))

-- a place in a chunk is a small number
pub place_small : (m : WordMap) (e : Extent) (from : ℕ) → IsHeld m e → ((k : ℕ) → IsSome (at m k) → k < 67108864) → from ≤ e.words → e.at + from ≤ 67108864
place_small m e from h small low =
    let last : e.at + (e.words - 1) < 67108864 = small (e.at + (e.words - 1)) (h.has (e.at + (e.words - 1)) (omega arith, (let z = h.some in omega arith))) in
    let z = h.some in omega arith

-- words in a row of a chunk are its holder's
pub row_held : (m : WordMap) (e : Extent) (from count at_word : ℕ) → IsHeld m e → from + count ≤ e.words → at_word ≡ e.at + from → (k : ℕ) → at_word ≤ k → k < at_word + count → IsSome (at m k)
row_held m e from count at_word h inside is k low high = h.has k (omega arith, omega arith)
