-- What each kind of step does and finds.
use Rattle.std.proofs.Common.{◌≡◌, ◌≢◌, ℕ, zero, suc, List, [], ◌∷◌, ◌++◌, slice_set, length, Some, refl, sym, ap, ◌∙◌, length-set}
use mathlib.Core.Option.{some, some-injective}
use lib.ListN.{get_elem?}
use Rattle.atomic_table.proofs.Lists.{set_here, set_else, at_longer, at_last}
use Rattle.word_map.specs.WordMap.{WordMap, at}
use Rattle.ring_rule.proofs.Stored.{in_list}
use Rattle.region_rule.specs.View.{View, Spent}
use Rattle.region_rule.specs.Sound.{World, Sees, Agrees}
use Rattle.region_rule.specs.Steps.{cut_anew, joined_anew}
use Rattle.region_rule.specs.Effects.{Turns, Cuts, Joins}

pub turns : (before after : World) (i : ℕ) (u v : View) → Sees before i u → after.views ≡ slice_set before.views i v → Turns before after i u v
turns before after i u v here e = record {
  was = here;
  now = ap (λ (l : List View). get_elem? l i) e ∙ set_here before.views i v (in_list before.views i u here);
  others = λ j n. ap (λ (l : List View). get_elem? l j) e ∙ set_else before.views i j v n;
}

not_last : {A : Type 0} (l : List A) (a : A) (j : ℕ) → j ≢ length l → get_elem? (l ++ a ∷ []) j ≡ get_elem? l j
not_last [] a zero n = absurd (n refl)
not_last [] a (suc j) n = refl
not_last (x ∷ xs) a zero n = refl
not_last (x ∷ xs) a (suc j) n = not_last xs a j (λ e. n (ap suc e))

pub cuts : (before after : World) (i : ℕ) (u v new : View) → Sees before i u → after ≡ cut_anew before i v new → Cuts before after i u v new
cuts before after i u v new here e =
    let l = slice_set before.views i v in
    let count : length l ≡ length before.views = length-set {A = View} before.views i v in
    let views : after.views ≡ l ++ new ∷ [] = ap (λ (w : World). w.views) e in
    record {
      was = here;
      now = ap (λ (x : List View). get_elem? x i) views ∙ at_longer l (new ∷ []) i v (set_here before.views i v (in_list before.views i u here));
      fresh = ap (λ (x : List View). get_elem? x (length before.views)) views ∙ at_last l new (length before.views) count;
      others = λ j n m. ap (λ (x : List View). get_elem? x j) views ∙ not_last l new j (λ f. m (f ∙ count)) ∙ set_else before.views i j v n;
    }

pub joins : (before after : World) (i j : ℕ) (u x v : View) → Sees before i u → Sees before j x → j ≢ i → after ≡ joined_anew before i v j → Joins before after i j u x v
joins before after i j u x v here there apart e =
    let l = slice_set before.views i v in
    let views : after.views ≡ slice_set l j Spent = ap (λ (w : World). w.views) e in
    record {
      was = here;
      other = there;
      now = ap (λ (y : List View). get_elem? y i) views ∙ set_else l j i Spent (λ f. apart (sym f)) ∙ set_here before.views i v (in_list before.views i u here);
      spent = ap (λ (y : List View). get_elem? y j) views ∙ set_here l j Spent (in_list l j x (set_else before.views i j v apart ∙ there));
      others = λ k n m. ap (λ (y : List View). get_elem? y k) views ∙ set_else l j k Spent m ∙ set_else before.views i k v n;
    }

-- what is found in a word of a map is its value there
pub found_value : (words : List ℕ) (m : WordMap) (k x : ℕ) → Agrees words m → get_elem? words k ≡ some x → (y : ℕ) → at m k ≡ Some y → x ≡ y
found_value words m k x a found y e = some-injective x y (sym found ∙ a k y e)
