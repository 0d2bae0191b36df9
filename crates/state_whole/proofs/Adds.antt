-- Groups of a file, one after another: what is added so far.
use Rattle.std.proofs.Common.{◌≡◌, ◌<◌, ◌≤◌, ◌+◌, ◌++◌, ◌∙◌, ℕ, Bool, List, [], ◌∷◌, All, ap, append_assoc, append-nil, arith, length, length-append, map, refl, subst, sym}
use Rattle.std.specs.List.{flat_map}
use Rattle.std.proofs.lemmas.List.{map-append}
use Rattle.std.proofs.lemmas.List.Elements.{All-cons, All-head, All-nil, All-push, All-tail}
use Rattle.std.proofs.lemmas.List.Sums.{fold_push}
use Rattle.partial_agg.specs.Groups.{GroupsByKey}
use Rattle.state_blocks.specs.Blocks.{Group, IsTuple, block_bytes, tuple_bytes}
use Rattle.state_blocks.proofs.Tuples.{tuple_some}
use Rattle.state_head.specs.Words.{Keys}
use Rattle.state_order.specs.Order.{HasKeys}
use Rattle.state_order.specs.declared.order.KeyOrder.{KeyOrder}
use Rattle.state_whole.specs.Adding.{CannotAdd, HasAdded, IsNoKey, IsNoMore, kept_with, key_of, state_of}
use Rattle.state_whole.specs.declared.adding.FileCount.{FileCount}
use Rattle.state_whole.specs.declared.adding.GroupFault.{GroupFault}
use Rattle.state_whole.specs.declared.adding.GroupFault.TheVariants as fault
use Rattle.state_whole.specs.declared.adding.Kept.{Kept}
use Rattle.state_whole.specs.declared.adding.Shape.{Shape}

-- ---- a group more

keep : (a b : ℕ) (groups : List Group) → a ≤ b → All (λ (g : Group). g.rows ≤ a) groups → All (λ (g : Group). g.rows ≤ b) groups
keep a b [] le all = All-nil (λ (g : Group). g.rows ≤ b)
keep a b (g ∷ groups) le all =
    let here = All-head (λ (h : Group). h.rows ≤ a) g groups all in
    All-cons (λ (h : Group). h.rows ≤ b) g groups (omega (arith, here, le)) (keep a b groups le (All-tail (λ (h : Group). h.rows ≤ a) g groups all))

pub added_more : (shape : Shape) (kept : Kept) (range : Keys) (start : GroupsByKey) (groups : List Group) (g : Group) (m n : GroupsByKey) (order next : KeyOrder) (count more : FileCount) → HasAdded shape kept range start groups m order count
    → n ≡ kept_with kept m g.key (state_of shape g) → HasKeys shape.columns range (map key_of groups ++ g.key ∷ []) next → more.groups ≡ count.groups + 1 → count.most ≤ more.most → g.rows ≤ more.most → HasAdded shape kept range start (groups ++ g ∷ []) n next more
added_more shape kept range start groups g m n order next count more is sum keys many most rows =
    let before = is.many in
    record {
      sum = sum ∙ ap (λ (x : GroupsByKey). kept_with kept x g.key (state_of shape g)) is.sum ∙ sym (fold_push (λ so_far h. kept_with kept so_far h.key (state_of shape h)) start groups g);
      keys = subst (λ (ks : List (List ℕ)). HasKeys shape.columns range ks next) (sym (map-append key_of groups (g ∷ []))) keys;
      many = omega (arith, many, before, length-append groups (g ∷ []));
      most = All-push (λ (h : Group). h.rows ≤ more.most) groups g (keep count.most more.most groups most is.most) rows;
    }

-- a key that does not come next
pub key_none : (shape : Shape) (range : Keys) (groups : List Group) (g : Group) (n : ℕ) → n ≡ length groups + 1 → (why : GroupFault) → IsNoKey shape.columns range (map key_of groups) g.key n why → IsNoMore shape range groups g why
key_none shape range groups g n many fault.Memory none = absurd none
key_none shape range groups g n many (fault.NoGroup number) none = absurd none
key_none shape range groups g n many (fault.Order number) none = (none.0 ∙ many, none.1)
key_none shape range groups g n many (fault.Range number) none = (none.0 ∙ many, none.1)

-- ---- a block

-- some groups of a block are added, and these bytes are left of it
pub record AreBegun (shape : Shape) (kept : Kept) (range : Keys) (start : GroupsByKey) (groups block : List Group) (rest : List ℕ) (m : GroupsByKey) (order : KeyOrder) (count : FileCount) : Type 0 where
  pub front : List Group
  pub tail : List Group
  pub is : block ≡ front ++ tail
  pub each : All (IsTuple shape.columns shape.kinds.now) tail
  pub left : rest ≡ block_bytes shape.kinds.now tail
  pub has : HasAdded shape kept range start (groups ++ front) m order count

-- so far, of whatever block these bytes are
pub record IsAddedTo (shape : Shape) (kept : Kept) (part rest : List ℕ) (m0 : GroupsByKey) (order0 : KeyOrder) (count0 : FileCount) (m : GroupsByKey) (order : KeyOrder) (count : FileCount) (at : ℕ) : Type 0 where
  pub begun : (start : GroupsByKey) (range : Keys) (groups block : List Group) → HasAdded shape kept range start groups m0 order0 count0 → All (IsTuple shape.columns shape.kinds.now) block → part ≡ block_bytes shape.kinds.now block
      → AreBegun shape kept range start groups block rest m order count
  pub room : at + length rest ≤ length part
  pub few : count.groups + length rest ≤ count0.groups + length part

pub none_added : (shape : Shape) (kept : Kept) (part : List ℕ) (m : GroupsByKey) (order : KeyOrder) (count : FileCount) → IsAddedTo shape kept part part m order count m order count 0
none_added shape kept part m order count = record {
  begun = λ start range groups block has all e. record {
    front = [];
    tail = block;
    is = refl;
    each = all;
    left = e;
    has = subst (λ (gs : List Group). HasAdded shape kept range start gs m order count) (sym (append-nil groups)) has;
  };
  room = omega arith;
  few = omega arith;
}

-- what is left of a block begins with a group, if there are bytes left
record BeginsWith (kinds : List Bool) (tail : List Group) (rest : List ℕ) : Type 0 where
  pub g : Group
  pub later : List Group
  pub is : tail ≡ g ∷ later
  pub begins : rest ≡ tuple_bytes kinds g ++ block_bytes kinds later

begins_with : (kinds : List Bool) (tail : List Group) (rest : List ℕ) → rest ≡ block_bytes kinds tail → 0 < length rest → BeginsWith kinds tail rest
unfolding block_bytes
begins_with kinds [] rest e some = absurd (omega (arith, some, ap length e))
begins_with kinds (g ∷ later) rest e some = record { g = g; later = later; is = refl; begins = e }

no_bytes_left : (kinds : List Bool) (tail : List Group) (rest : List ℕ) → rest ≡ block_bytes kinds tail → length rest ≡ 0 → tail ≡ []
unfolding block_bytes
no_bytes_left kinds [] rest e none = refl
no_bytes_left kinds (g ∷ later) rest e none =
    let some = tuple_some kinds g in
    absurd (omega (arith, some, none, ap length e, length-append (tuple_bytes kinds g) (flat_map (tuple_bytes kinds) later)))

pub one_added : (shape : Shape) (kept : Kept) (part rest after : List ℕ) (m0 m n : GroupsByKey) (order0 order next : KeyOrder) (count0 count more : FileCount) (at : ℕ) → IsAddedTo shape kept part rest m0 order0 count0 m order count at → 0 < length rest → length after < length rest
    → more.groups ≤ count.groups + 1
    → ((start : GroupsByKey) (range : Keys) (groups : List Group) (g : Group) (r : List ℕ) → HasAdded shape kept range start groups m order count → IsTuple shape.columns shape.kinds.now g → rest ≡ tuple_bytes shape.kinds.now g ++ r
    → (after ≡ r) × HasAdded shape kept range start (groups ++ g ∷ []) n next more)
    → IsAddedTo shape kept part after m0 order0 count0 n next more (at + 1)
one_added shape kept part rest after m0 m n order0 order next count0 count more at is some shorter groups_more adds =
    let room = is.room in
    let few = is.few in
    record { begun = go; room = omega (arith, room, shorter); few = omega (arith, few, shorter, groups_more) }
  where
    go : (start : GroupsByKey) (range : Keys) (groups block : List Group) → HasAdded shape kept range start groups m0 order0 count0 → All (IsTuple shape.columns shape.kinds.now) block → part ≡ block_bytes shape.kinds.now block
        → AreBegun shape kept range start groups block after n next more
    go start range groups block has all e =
        let b = is.begun start range groups block has all e in
        let f = begins_with shape.kinds.now b.tail rest b.left some in
        let each = subst (λ (gs : List Group). All (IsTuple shape.columns shape.kinds.now) gs) f.is b.each in
        let did = adds start range (groups ++ b.front) f.g (block_bytes shape.kinds.now f.later) b.has (All-head (IsTuple shape.columns shape.kinds.now) f.g f.later each) f.begins in
        record {
          front = b.front ++ f.g ∷ [];
          tail = f.later;
          is = b.is ∙ ap (λ (gs : List Group). b.front ++ gs) f.is ∙ sym (append_assoc b.front (f.g ∷ []) f.later);
          each = All-tail (IsTuple shape.columns shape.kinds.now) f.g f.later each;
          left = did.0;
          has = subst (λ (gs : List Group). HasAdded shape kept range start gs n next more) (append_assoc groups b.front (f.g ∷ [])) did.1;
        }

-- all groups of a block are added
pub all_added : (shape : Shape) (kept : Kept) (part rest : List ℕ) (m0 m : GroupsByKey) (order0 order : KeyOrder) (count0 count : FileCount) (at : ℕ) → IsAddedTo shape kept part rest m0 order0 count0 m order count at → length rest ≡ 0
    → (start : GroupsByKey) (range : Keys) (groups block : List Group) → HasAdded shape kept range start groups m0 order0 count0 → All (IsTuple shape.columns shape.kinds.now) block → part ≡ block_bytes shape.kinds.now block
    → HasAdded shape kept range start (groups ++ block) m order count
all_added shape kept part rest m0 m order0 order count0 count at is none start range groups block has all e =
    let b = is.begun start range groups block has all e in
    let whole = b.is ∙ ap (λ (gs : List Group). b.front ++ gs) (no_bytes_left shape.kinds.now b.tail rest b.left none) ∙ append-nil b.front in
    subst (λ (gs : List Group). HasAdded shape kept range start (groups ++ gs) m order count) (sym whole) b.has

-- the next one is not
pub not_added : (shape : Shape) (kept : Kept) (part rest : List ℕ) (m0 m : GroupsByKey) (order0 order : KeyOrder) (count0 count : FileCount) (at : ℕ) (why : GroupFault) → IsAddedTo shape kept part rest m0 order0 count0 m order count at → 0 < length rest
    → ((start : GroupsByKey) (range : Keys) (groups : List Group) (g : Group) (r : List ℕ) → HasAdded shape kept range start groups m order count → IsTuple shape.columns shape.kinds.now g → rest ≡ tuple_bytes shape.kinds.now g ++ r → IsNoMore shape range groups g why)
    → (start : GroupsByKey) (range : Keys) (groups block : List Group) → HasAdded shape kept range start groups m0 order0 count0 → All (IsTuple shape.columns shape.kinds.now) block → part ≡ block_bytes shape.kinds.now block → CannotAdd shape range (groups ++ block) why
not_added shape kept part rest m0 m order0 order count0 count at why is some none start range groups block has all e =
    let b = is.begun start range groups block has all e in
    let f = begins_with shape.kinds.now b.tail rest b.left some in
    let each = subst (λ (gs : List Group). All (IsTuple shape.columns shape.kinds.now) gs) f.is b.each in
    record {
      front = groups ++ b.front;
      g = f.g;
      rest = f.later;
      is = ap (λ (gs : List Group). groups ++ gs) (b.is ∙ ap (λ (gs : List Group). b.front ++ gs) f.is) ∙ sym (append_assoc groups b.front (f.g ∷ f.later));
      none = none start range (groups ++ b.front) f.g (block_bytes shape.kinds.now f.later) b.has (All-head (IsTuple shape.columns shape.kinds.now) f.g f.later each) f.begins;
    }
