-- Groups of a block, one after another: what is kept of them so far.
use Rattle.std.proofs.Common.{◌≡◌, ◌<◌, ◌≤◌, ◌+◌, ◌++◌, ◌∙◌, ℕ, Bool, List, [], ◌∷◌, All, ap, append_assoc, append-nil, arith, length, length-append, refl, subst, sym}
use Rattle.std.specs.List.{flat_map}
use Rattle.std.proofs.lemmas.List.Elements.{All-head, All-tail}
use Rattle.std.proofs.lemmas.List.Sums.{fold_push}
use Rattle.partial_agg.specs.Groups.{GroupsByKey}
use Rattle.state_blocks.specs.Blocks.{Group, IsTuple, block_bytes, tuple_bytes}
use Rattle.state_blocks.proofs.Tuples.{tuple_some}
use Rattle.state_keep.specs.declared.keep.KeepFault.{KeepFault}
use Rattle.state_keep.specs.declared.keep.KeepFault.TheVariants as fault
use Rattle.state_whole.specs.Adding.{kept_sum, kept_with, state_of}
use Rattle.state_whole.specs.declared.adding.Kept.{Kept}
use Rattle.state_whole.specs.declared.adding.Shape.{Shape}

-- those of some groups of a block that are kept are added, and these bytes are left of it
pub record AreBegun (shape : Shape) (kept : Kept) (block : List Group) (rest : List ℕ) (m0 m : GroupsByKey) : Type 0 where
  pub front : List Group
  pub tail : List Group
  pub is : block ≡ front ++ tail
  pub each : All (IsTuple shape.columns shape.kinds.now) tail
  pub left : rest ≡ block_bytes shape.kinds.now tail
  pub has : m ≡ kept_sum shape kept m0 front

-- so far, of whatever block these bytes are
pub record IsKeptTo (shape : Shape) (kept : Kept) (part rest : List ℕ) (m0 m : GroupsByKey) (at : ℕ) : Type 0 where
  pub begun : (block : List Group) → All (IsTuple shape.columns shape.kinds.now) block → part ≡ block_bytes shape.kinds.now block → AreBegun shape kept block rest m0 m
  pub room : at + length rest ≤ length part

pub none_kept : (shape : Shape) (kept : Kept) (part : List ℕ) (m : GroupsByKey) → IsKeptTo shape kept part part m m 0
none_kept shape kept part m = record {
  begun = λ block all e. record { front = []; tail = block; is = refl; each = all; left = e; has = refl };
  room = omega arith;
}

-- what is left of a block begins with a group, if there are bytes left
record BeginsWith (kinds : List Bool) (tail : List Group) (rest : List ℕ) : Type 0 where
  pub g : Group
  pub later : List Group
  pub is : tail ≡ g ∷ later
  pub begins : rest ≡ tuple_bytes kinds g ++ block_bytes kinds later

begins_with : (kinds : List Bool) (tail : List Group) (rest : List ℕ) → rest ≡ block_bytes kinds tail → 0 < length rest → BeginsWith kinds tail rest
unfolding block_bytes
begins_with kinds [] rest e some = absurd (omega (arith, some, ap length e))
begins_with kinds (g ∷ later) rest e some = record { g = g; later = later; is = refl; begins = e }

no_bytes_left : (kinds : List Bool) (tail : List Group) (rest : List ℕ) → rest ≡ block_bytes kinds tail → length rest ≡ 0 → tail ≡ []
unfolding block_bytes
no_bytes_left kinds [] rest e none = refl
no_bytes_left kinds (g ∷ later) rest e none =
    let some = tuple_some kinds g in
    absurd (omega (arith, some, none, ap length e, length-append (tuple_bytes kinds g) (flat_map (tuple_bytes kinds) later)))

-- one group more
pub one_kept : (shape : Shape) (kept : Kept) (part rest after : List ℕ) (m0 m n : GroupsByKey) (at : ℕ) → IsKeptTo shape kept part rest m0 m at → 0 < length rest → length after < length rest
    → ((g : Group) (r : List ℕ) → IsTuple shape.columns shape.kinds.now g → rest ≡ tuple_bytes shape.kinds.now g ++ r → (after ≡ r) × (n ≡ kept_with kept m g.key (state_of shape g)))
    → IsKeptTo shape kept part after m0 n (at + 1)
one_kept shape kept part rest after m0 m n at is some shorter keeps =
    let room = is.room in
    record { begun = go; room = omega (arith, room, shorter) }
  where
    go : (block : List Group) → All (IsTuple shape.columns shape.kinds.now) block → part ≡ block_bytes shape.kinds.now block → AreBegun shape kept block after m0 n
    go block all e =
        let b = is.begun block all e in
        let f = begins_with shape.kinds.now b.tail rest b.left some in
        let each = subst (λ (gs : List Group). All (IsTuple shape.columns shape.kinds.now) gs) f.is b.each in
        let did = keeps f.g (block_bytes shape.kinds.now f.later) (All-head (IsTuple shape.columns shape.kinds.now) f.g f.later each) f.begins in
        record {
          front = b.front ++ f.g ∷ [];
          tail = f.later;
          is = b.is ∙ ap (λ (gs : List Group). b.front ++ gs) f.is ∙ sym (append_assoc b.front (f.g ∷ []) f.later);
          each = All-tail (IsTuple shape.columns shape.kinds.now) f.g f.later each;
          left = did.0;
          has = did.1 ∙ ap (λ (x : GroupsByKey). kept_with kept x f.g.key (state_of shape f.g)) b.has ∙ sym (fold_push (λ so_far h. kept_with kept so_far h.key (state_of shape h)) m0 b.front f.g);
        }

-- all groups of a block
pub all_kept : (shape : Shape) (kept : Kept) (part rest : List ℕ) (m0 m : GroupsByKey) (at : ℕ) → IsKeptTo shape kept part rest m0 m at → length rest ≡ 0
    → (block : List Group) → All (IsTuple shape.columns shape.kinds.now) block → part ≡ block_bytes shape.kinds.now block → m ≡ kept_sum shape kept m0 block
all_kept shape kept part rest m0 m at is none block all e =
    let b = is.begun block all e in
    let whole = b.is ∙ ap (λ (gs : List Group). b.front ++ gs) (no_bytes_left shape.kinds.now b.tail rest b.left none) ∙ append-nil b.front in
    b.has ∙ ap (kept_sum shape kept m0) (sym whole)

-- the next one is not kept
pub not_kept : (shape : Shape) (kept : Kept) (part rest : List ℕ) (m0 m : GroupsByKey) (at : ℕ) (why : KeepFault) → IsKeptTo shape kept part rest m0 m at → 0 < length rest
    → ((g : Group) (r : List ℕ) → IsTuple shape.columns shape.kinds.now g → rest ≡ tuple_bytes shape.kinds.now g ++ r → why ≡ fault.Memory)
    → (block : List Group) → All (IsTuple shape.columns shape.kinds.now) block → part ≡ block_bytes shape.kinds.now block → why ≡ fault.Memory
not_kept shape kept part rest m0 m at why is some none block all e =
    let b = is.begun block all e in
    let f = begins_with shape.kinds.now b.tail rest b.left some in
    let each = subst (λ (gs : List Group). All (IsTuple shape.columns shape.kinds.now) gs) f.is b.each in
    none f.g (block_bytes shape.kinds.now f.later) (All-head (IsTuple shape.columns shape.kinds.now) f.g f.later each) f.begins
