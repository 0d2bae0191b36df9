-- Why a file is not added, by its parts.
use Rattle.std.proofs.Common.{◌≡◌, ◌≤◌, ◌+◌, ◌^◌, ◌++◌, ◌∙◌, ℕ, List, [], All, arith, subst, sym}
use Rattle.std.specs.FinMap as finite
use Rattle.partial_agg.specs.Groups.{GroupsByKey}
use Rattle.partial_agg.specs.Listed.{listed}
use Rattle.partial_agg.specs.declared.groups.Group.{Group as MapGroup}
use Rattle.state_blocks.specs.Blocks.{Group}
use Rattle.state_body.specs.Body.{groups_of}
use Rattle.state_head.specs.Head.{Preface}
use Rattle.state_head.specs.Words.{Keys, keys_of}
use Rattle.state_head.specs.declared.cover.Stretch.{Stretch}
use Rattle.state_order.proofs.Kept.{each_within}
use Rattle.state_order.specs.Ranges.{AreWithin}
use Rattle.state_order.specs.declared.order.KeyOrder.{KeyOrder}
use Rattle.state_whole.specs.Adding.{HasAdded, sum_with}
use Rattle.state_whole.specs.Sums.{AreBounded, AreNotAdded, AreSummed, HasBody, HasNoGroups, IsNoFile}
use Rattle.state_whole.specs.declared.adding.FileCount.{FileCount}
use Rattle.state_whole.specs.declared.adding.Kept.{Kept}
use Rattle.state_whole.specs.declared.adding.Shape.{Shape}
use Rattle.state_whole.specs.declared.files.FileFault.{FileFault}
use Rattle.state_whole.specs.declared.files.FileFault.TheVariants as fault
use Rattle.state_whole.specs.declared.files.Sum.{Sum}
use Rattle.state_whole.proofs.Bodies.{none_bound, sum_bound}
use Rattle.state_whole.proofs.Keeping.{none_within, sum_within}

-- its body
pub no_groups : (shape : Shape) (m : GroupsByKey) (front : Preface) (at : ℕ) (bytes : List ℕ) (why : FileFault) → HasNoGroups shape front at bytes why → IsNoFile shape m front at bytes why
no_groups shape m front at bytes fault.Memory none = tt
no_groups shape m front at bytes (fault.Body why) none = none
no_groups shape m front at bytes (fault.Group why) none = absurd none
no_groups shape m front at bytes fault.Refused none = none
no_groups shape m front at bytes fault.Rows none = absurd none

-- its groups
pub not_added : (shape : Shape) (m : GroupsByKey) (front : Preface) (at : ℕ) (bytes : List ℕ) (has : HasBody shape at bytes) (why : FileFault) → AreNotAdded shape m front.keys (groups_of has.blocks) why → IsNoFile shape m front at bytes why
not_added shape m front at bytes has fault.Memory none = tt
not_added shape m front at bytes has (fault.Body why) none = absurd none
not_added shape m front at bytes has (fault.Group why) none = (has, none)
not_added shape m front at bytes has fault.Refused none = absurd none
not_added shape m front at bytes has fault.Rows none = (has, none)

-- ---- no files

pub begun : (sum : Sum) → sum.map ≡ finite.empty → sum.cover.items ≡ [] → sum.most ≤ 2 ^ 50 → AreSummed finite.empty [] sum
begun sum map_is cover_is few = record {
  are_within = subst (AreWithin sum.kept.columns (keys_of sum.kept.range) finite.empty) (sym map_is) (none_within sum.kept.columns (keys_of sum.kept.range));
  cover_is = cover_is;
  most = few;
  bound = subst (λ (x : GroupsByKey). All (λ (g : MapGroup). g.state.rows ≤ sum.most) (listed x)) (sym map_is) (none_bound sum.most);
}

-- ---- the sum after a file

-- what no group has more rows than
pub sum_few : (shape : Shape) (range : Keys) (m n : GroupsByKey) (cover : List Stretch) (old : Sum) (groups : List Group) (order : KeyOrder) (count : FileCount) → AreSummed m cover old → HasAdded shape old.kept range old.map groups n order count
    → All (λ (g : MapGroup). g.state.rows ≤ old.most + count.most) (listed n)
sum_few shape range m n cover old groups order count is has =
    subst (λ (x : GroupsByKey). All (λ (g : MapGroup). g.state.rows ≤ old.most + count.most) (listed x)) (sym has.sum)
    (sum_bound shape.columns shape old.kept old.map groups old.most count.most is.bound has.keys.are.rise has.most)

-- those of all groups that are kept
now_within : (shape : Shape) (range : Keys) (m n : GroupsByKey) (cover : List Stretch) (old : Sum) (groups : List Group) (order : KeyOrder) (count : FileCount) → AreSummed m cover old → HasAdded shape old.kept range old.map groups n order count
    → AreWithin old.kept.columns (keys_of old.kept.range) (sum_with shape m groups) n
now_within shape range m n cover old groups order count is has =
    subst (AreWithin old.kept.columns (keys_of old.kept.range) (sum_with shape m groups)) (sym has.sum) (sum_within shape old.kept groups m old.map is.are_within)

pub summed : (shape : Shape) (range : Keys) (m n : GroupsByKey) (cover more put : List Stretch) (old new : Sum) (groups : List Group) (order : KeyOrder) (count : FileCount) (most : ℕ) → AreSummed m cover old → HasAdded shape old.kept range old.map groups n order count
    → new.map ≡ n → new.kept ≡ old.kept → new.cover.items ≡ put → put ≡ cover ++ more → new.most ≡ most → most ≤ 2 ^ 50 → All (λ (g : MapGroup). g.state.rows ≤ most) (listed n) → AreSummed (sum_with shape m groups) (cover ++ more) new
summed shape range m n cover more put old new groups order count most was has map_is kept_is put_is is most_is few all =
    let within = now_within shape range m n cover old groups order count was has in
    let by_map = subst (AreWithin old.kept.columns (keys_of old.kept.range) (sum_with shape m groups)) (sym map_is) within in
    record {
      are_within = subst (λ (k : Kept). AreWithin k.columns (keys_of k.range) (sum_with shape m groups) new.map) (sym kept_is) by_map;
      cover_is = put_is ∙ is;
      most = omega (arith, few, most_is);
      bound = subst (λ (x : GroupsByKey). All (λ (g : MapGroup). g.state.rows ≤ new.most) (listed x)) (sym map_is) (subst (λ (k : ℕ). All (λ (g : MapGroup). g.state.rows ≤ k) (listed n)) (sym most_is) all);
    }

-- if the groups that are kept are past the bound, so are all
pub past_bound : (shape : Shape) (range : Keys) (m n : GroupsByKey) (cover : List Stretch) (old : Sum) (groups : List Group) (order : KeyOrder) (count : FileCount) → AreSummed m cover old → HasAdded shape old.kept range old.map groups n order count
    → (AreBounded n → ⊥) → AreBounded (sum_with shape m groups) → ⊥
past_bound shape range m n cover old groups order count is has none all =
    none (each_within (λ (g : MapGroup). g.state.rows ≤ 2 ^ 50) old.kept.columns (keys_of old.kept.range) (sum_with shape m groups) n (now_within shape range m n cover old groups order count is has) all)
