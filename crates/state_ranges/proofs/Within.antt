-- A map keeps those of the groups that were added whose keys lie in its range. These lemmas are those of `Keeping.antt` of `state_whole`,
-- which are not public there: when that crate changes next, they can be, and this page can go.
use Rattle.std.proofs.Common.{◌≡◌, ◌∙◌, ℕ, Bool, true, false, List, [], ◌∷◌, None, Option, Some, ap, cond, refl, sym}
use Rattle.std.specs.Cmp.Lexicographic.{nat_list_cmp_total}
use Rattle.std.specs.FinMap as finite
use Rattle.std.specs.Ordering.{eq_by_cmp}
use Rattle.par_model.specs.declared.state.AggState.{AggState}
use Rattle.partial_agg.specs.Groups.{GroupsByKey, added, joined, key_cmp}
use Rattle.partial_agg.proofs.Joining.{equal}
use Rattle.state_blocks.specs.Blocks.{Group}
use Rattle.state_head.specs.Words.{Keys, keys_of}
use Rattle.state_order.specs.Ranges.{AreWithin, is_within}
use Rattle.state_whole.specs.Adding.{kept_sum, kept_with, state_of, sum_with, with_group}
use Rattle.state_whole.specs.declared.adding.Kept.{Kept}
use Rattle.state_whole.specs.declared.adding.Shape.{Shape}

abbrev kept_or : Bool → Option AggState → Option AggState
kept_or b o = cond b o None

none_or : (b : Bool) → None ≡ kept_or b None
none_or true = refl
none_or false = refl

-- of no groups none are kept
pub none_within : (n : ℕ) (range : Keys) → AreWithin n range finite.empty finite.empty
none_within n range = record {
  each = λ q.
      let none = finite.get-empty key_cmp q in
      none ∙ none_or (is_within n range q) ∙ sym (ap (kept_or (is_within n range q)) none);
}

-- ---- one group more

module _ (n : ℕ) (range : Keys) (m w : GroupsByKey) (key : List ℕ) (state : AggState) (are : AreWithin n range m w) (q : List ℕ) where
  abbrev Here : Bool → Type 0
  Here x = finite.get (cond x (added w key state) w) q ≡ kept_or (is_within n range q) (finite.get (added m key state) q)

  abbrev more_of : (o : Option AggState) → Option AggState
  more_of o = Some (joined o state)

  at_key : (x : Bool) → is_within n range key ≡ x → q ≡ key → eq_by_cmp key_cmp q key ≡ true → Here x
  at_key true inside same ties =
      let there : finite.get w key ≡ finite.get m key = are.each key ∙ ap (λ (b : Bool). kept_or b (finite.get m key)) inside in
      finite.get-insert nat_list_cmp_total w key (joined (finite.get w key) state) q
      ∙ ap (λ (b : Bool). cond b (more_of (finite.get w key)) (finite.get w q)) ties
      ∙ ap more_of there
      ∙ sym (ap (λ (b : Bool). cond b (more_of (finite.get m key)) (finite.get m q)) ties)
      ∙ sym (finite.get-insert nat_list_cmp_total m key (joined (finite.get m key) state) q)
      ∙ sym (ap (λ (b : Bool). kept_or b (finite.get (added m key state) q)) (ap (is_within n range) same ∙ inside))
  at_key false outside same ties =
      let no : is_within n range q ≡ false = ap (is_within n range) same ∙ outside in
      are.each q ∙ ap (λ (b : Bool). kept_or b (finite.get m q)) no ∙ sym (ap (λ (b : Bool). kept_or b (finite.get (added m key state) q)) no)

  beside : (x : Bool) → eq_by_cmp key_cmp q key ≡ false → Here x
  beside x apart =
      let there : finite.get (added m key state) q ≡ finite.get m q = finite.get-insert nat_list_cmp_total m key (joined (finite.get m key) state) q ∙ ap (λ (b : Bool). cond b (more_of (finite.get m key)) (finite.get m q)) apart in
      same x ∙ are.each q ∙ sym (ap (kept_or (is_within n range q)) there)
    where
      same : (b : Bool) → finite.get (cond b (added w key state) w) q ≡ finite.get w q
      same true = finite.get-insert nat_list_cmp_total w key (joined (finite.get w key) state) q ∙ ap (λ (b : Bool). cond b (more_of (finite.get w key)) (finite.get w q)) apart
      same false = refl

  either : (b : Bool) → eq_by_cmp key_cmp q key ≡ b → Here (is_within n range key)
  either true ties = at_key (is_within n range key) refl (finite.slice_cmp-IsAntisymmetric finite.nat_cmp-IsAntisymmetric q key (equal (key_cmp q key) ties)) ties
  either false apart = beside (is_within n range key) apart

  at_any : Here (is_within n range key)
  at_any = either (eq_by_cmp key_cmp q key) refl

one_within : (kept : Kept) (m w : GroupsByKey) (key : List ℕ) (state : AggState) → AreWithin kept.columns (keys_of kept.range) m w → AreWithin kept.columns (keys_of kept.range) (added m key state) (kept_with kept w key state)
one_within kept m w key state are = record { each = λ q. at_any kept.columns (keys_of kept.range) m w key state are q }

-- ---- all groups of a file

pub sum_within : (shape : Shape) (kept : Kept) (groups : List Group) (m w : GroupsByKey) → AreWithin kept.columns (keys_of kept.range) m w → AreWithin kept.columns (keys_of kept.range) (sum_with shape m groups) (kept_sum shape kept w groups)
sum_within shape kept [] m w are = are
sum_within shape kept (g ∷ groups) m w are = sum_within shape kept groups (with_group shape m g) (kept_with kept w g.key (state_of shape g)) (one_within kept m w g.key (state_of shape g) are)
