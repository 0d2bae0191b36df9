-- A pool without a superblock.
use Rattle.std.proofs.Common.{◌≡◌, ℕ, zero, suc, ◌+◌, ◌/◌, ◌&&◌, not, Bool, true, false, cond, List, [], ◌∷◌, None, is_some, refl, ap, ◌∙◌, arith}
use Rattle.std.proofs.lemmas.Bool.{false_from_ne_true}
use Rattle.word_map.specs.WordMap.{WordMap, at, HasJust, is_within, range_of, rest_of}
use Rattle.word_map.proofs.Maps.{at-range, within_is}
use Rattle.region_words.specs.Parts.{Owned}
use Rattle.span_pools.specs.declared.layout.Layout.{Layout}
use Rattle.span_pools.specs.Places.{IsLayout}
use Rattle.span_pools.specs.Legal.{Span}
use Rattle.span_pools.specs.View.{mark_of, owns, live_of, spans_of, state_of, IsPool}
use Rattle.span_pools.proofs.Pools.{rest_keys, no_bool}

no_words : (k : ℕ) → is_within 0 0 k ≡ false
no_words k = false_from_ne_true (is_within 0 0 k) (λ h. let w = within_is 0 0 k h in omega (arith, w.1))

-- a part that gave nothing away
pub rest_none : (m : WordMap) (from len : ℕ) → HasJust m from len → HasJust (rest_of m 0 0) from len
rest_none m from len just k = rest_keys m 0 0 k ∙ ap (λ (b : Bool). owns m k && not b) (no_words k) ∙ and_all (owns m k) ∙ just k
  where
    and_all : (b : Bool) → (b && not false) ≡ b
    and_all true = refl
    and_all false = refl

nothing : (m n : WordMap) (k : ℕ) → m ≡ range_of n 0 0 → owns m k ≡ false
nothing m n k e = ap (λ (x : WordMap). owns x k) e ∙ ap is_some (at-range n 0 0 k ∙ ap (λ (b : Bool). cond b (at n k) None) (no_words k))

pub empty_pool : (l : Layout) (marks records words : Owned) → records.region ≡ marks.region → words.region ≡ marks.region → IsLayout l → HasJust marks.words l.marks ((l.pages + 63) / 64)
    → ((p : ℕ) → mark_of l marks.words p ≡ false) → (m n : WordMap) → records.words ≡ range_of m 0 0 → words.words ≡ range_of n 0 0 → IsPool l None marks records words
empty_pool l marks records words here here2 a bits none m n e f = record {
  records_here = here;
  words_here = here2;
  layout = a;
  bits = bits;
  shape = record {
    inside = λ p h. absurd (no_bool (mark_of l marks.words p) h (none p));
    apart = λ p q h k less. absurd (no_bool (mark_of l marks.words p) h (none p));
    within = λ k h. absurd (no_bool (owns words.words k) h (nothing words.words n k f));
    objects = λ p k h c low. absurd (no_bool (mark_of l marks.words p) h (none p));
    tail = λ p k h c low. absurd (no_bool (mark_of l marks.words p) h (none p));
  };
  records_are = record {
    within = λ k h. absurd (no_bool (owns records.words k) h (nothing records.words m k e));
    all = λ p k h w. absurd (no_bool (mark_of l marks.words p) h (none p));
  };
  records_say = λ p h. absurd (no_bool (mark_of l marks.words p) h (none p));
  active_marked = λ p h. absurd (let z : ⊥ = cc in z);
  some_active = λ p h. absurd (no_bool (mark_of l marks.words p) h (none p));
  settled = λ p h. absurd (no_bool (mark_of l marks.words p) h (none p));
}

no_spans : (marked : ℕ → Bool) (live : ℕ → List Bool) (a n : ℕ) → ((p : ℕ) → marked p ≡ false) → spans_of marked live a n ≡ []
no_spans marked live a zero none = refl
no_spans marked live a (suc n) none = ap (λ (b : Bool). cond b (record { page = a; live = live a } ∷ spans_of marked live (suc a) n) (spans_of marked live (suc a) n)) (none a) ∙ no_spans marked live (suc a) n none

pub empty_state : (l : Layout) (marks words : WordMap) → ((p : ℕ) → mark_of l marks p ≡ false) → state_of l None marks words ≡ record { spans = []; active = None }
empty_state l marks words none = ap (λ (s : List Span). record { spans = s; active = None }) (no_spans (mark_of l marks) (live_of l words) 0 l.pages none)
