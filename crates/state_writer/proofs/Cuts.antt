-- What a writer holds: after a group more, after a block is written, at the end.
use Rattle.std.proofs.Common.{◌≡◌, ◌<◌, ◌≤◌, ◌+◌, ◌^◌, ◌++◌, ◌∙◌, ℕ, Bool, false, true, List, [], ◌∷◌, All, ap, append_assoc, append-nil, arith, cond, leb-false, leb-true, length, length-append, nat_le, refl, subst, sym}
use Rattle.std.specs.List.{flat_map}
use Rattle.std.proofs.lemmas.Grind.{flat_map-append}
use Rattle.std.proofs.lemmas.List.Elements.{All-nil, All-push}
use Rattle.std.proofs.lemmas.List.Sums.{fold_push}
use Rattle.par_model.specs.declared.state.SlotState.{SlotState}
use Rattle.state_blocks.specs.Blocks.{Group, block_bytes, blocks_bytes, first_key, tuple_bytes}
use Rattle.state_body.specs.Body.{IsIndex, body_bytes, end_bytes, foot_bytes}
use Rattle.state_body.specs.declared.index.Index.{Index}
use Rattle.state_body.proofs.Indexes.{blocks-push}
use Rattle.state_file.specs.Section.{section}
use Rattle.state_file.specs.Text.{text_bytes}
use Rattle.state_groups.specs.Group.{group_bytes, values_bytes}
use Rattle.state_writer.specs.Writing.{Cut, Ends, Goes, HasTaken, Holds, IsShort, blocks_of, closed, cut, cut_more, group_of}
use Rattle.state_writer.specs.declared.writer.BodyWriter.{BodyWriter}

cond_no : {A : Type 0} (n : ℕ) (x y : A) → n < 60_000 → cond (nat_le 60_000 n) x y ≡ y
cond_no n x y less = go (nat_le 60_000 n) refl
  where
    go : (b : Bool) → nat_le 60_000 n ≡ b → cond b x y ≡ y
    go true e = let more = leb-true 60_000 n e in absurd (omega (arith, more, less))
    go false e = refl

cond_yes : {A : Type 0} (n : ℕ) (x y : A) → 60_000 ≤ n → cond (nat_le 60_000 n) x y ≡ x
cond_yes n x y more = go (nat_le 60_000 n) refl
  where
    go : (b : Bool) → nat_le 60_000 n ≡ b → cond b x y ≡ x
    go true e = refl
    go false e = let less = leb-false 60_000 n e in absurd (omega (arith, more, less))

pub cut-push : (kinds : List Bool) (groups : List Group) (g : Group) → cut kinds (groups ++ g ∷ []) ≡ cut_more kinds (cut kinds groups) g
unfolding cut
cut-push kinds groups g = fold_push (cut_more kinds) (record { full = []; begun = [] }) groups g

pub block-push : (kinds : List Bool) (block : List Group) (g : Group) → block_bytes kinds (block ++ g ∷ []) ≡ block_bytes kinds block ++ tuple_bytes kinds g
unfolding block_bytes
block-push kinds block g = flat_map-append (tuple_bytes kinds) block (g ∷ []) ∙ ap (λ (bs : List ℕ). flat_map (tuple_bytes kinds) block ++ bs) (append-nil (tuple_bytes kinds g))

tuple_is : (kinds : List Bool) (key : List ℕ) (rows : ℕ) (slots : List SlotState) → tuple_bytes kinds (group_of key rows slots) ≡ group_bytes kinds key rows slots
unfolding tuple_bytes
tuple_is kinds key rows slots = refl

no_groups : (kinds : List Bool) → [] ≡ block_bytes kinds []
unfolding block_bytes
no_groups kinds = refl

no_blocks : (kinds : List Bool) → [] ≡ blocks_bytes kinds []
unfolding blocks_bytes
no_blocks kinds = refl

-- ---- the first state

pub none_taken : (kinds : List Bool) (start : ℕ) (w : BodyWriter) → IsIndex kinds start [] w.index → w.block.items ≡ [] → w.groups ≡ 0 → HasTaken kinds start [] [] w
unfolding cut
none_taken kinds start w index block groups = record {
  written_is = no_blocks kinds;
  each = All-nil (IsShort kinds);
  index = index;
  block = block ∙ no_groups kinds;
  many = groups;
  first = λ some. absurd (omega (arith, some, groups));
}

-- ---- a group more

-- a group is taken into the block that is not written
pub record Took (kinds : List Bool) (start : ℕ) (c : Cut) (g : Group) (written : List ℕ) (w : BodyWriter) : Type 0 where
  pub written_is : written ≡ blocks_bytes kinds c.full
  pub each : All (IsShort kinds) c.full
  pub index : IsIndex kinds start c.full w.index
  pub block : w.block.items ≡ block_bytes kinds (c.begun ++ g ∷ [])
  pub many : w.groups ≡ length (c.begun ++ g ∷ [])
  pub first : w.first.items ≡ first_key (c.begun ++ g ∷ [])

first_of : (begun : List Group) (g : Group) (key old new : List ℕ) (groups : ℕ) → groups ≡ length begun → (groups ≡ 0 → new ≡ key) → (0 < groups → new ≡ old) → (0 < groups → old ≡ first_key begun) → g.key ≡ key → new ≡ first_key (begun ++ g ∷ [])
first_of [] g key old new groups many none some was same = none many ∙ sym same
first_of (o ∷ begun) g key old new groups many none some was same =
    let more : 0 < groups = omega (arith, many) in
    some more ∙ was more

pub took : (kinds : List Bool) (start : ℕ) (c : Cut) (written : List ℕ) (old new : BodyWriter) (key : List ℕ) (rows : ℕ) (slots : List SlotState) → Holds kinds start c written old → new.index ≡ old.index
    → new.block.items ≡ old.block.items ++ group_bytes kinds key rows slots → new.groups ≡ old.groups + 1 → (old.groups ≡ 0 → new.first.items ≡ key) → (0 < old.groups → new.first.items ≡ old.first.items)
    → Took kinds start c (group_of key rows slots) written new
took kinds start c written old new key rows slots is same block groups none some = record {
  written_is = is.written_is;
  each = is.each;
  index = subst (λ (i : Index). IsIndex kinds start c.full i) (sym same) is.index;
  block = block ∙ ap (λ (bs : List ℕ). bs ++ group_bytes kinds key rows slots) is.block ∙ ap (λ (bs : List ℕ). block_bytes kinds c.begun ++ bs) (sym (tuple_is kinds key rows slots))
      ∙ sym (block-push kinds c.begun (group_of key rows slots));
  many = let many = is.many in omega (arith, groups, many, length-append c.begun (group_of key rows slots ∷ []));
  first = first_of c.begun (group_of key rows slots) key old.first.items new.first.items old.groups is.many none some is.first refl;
}

-- likewise if what comes after its key was made before
pub took_made : (kinds : List Bool) (start : ℕ) (c : Cut) (written : List ℕ) (old new : BodyWriter) (key values : List ℕ) (g : Group) → Holds kinds start c written old → g.key ≡ key → values_bytes kinds g.rows g.slots ≡ values → new.index ≡ old.index
    → new.block.items ≡ old.block.items ++ (text_bytes key ++ values) → new.groups ≡ old.groups + 1 → (old.groups ≡ 0 → new.first.items ≡ key) → (0 < old.groups → new.first.items ≡ old.first.items) → Took kinds start c g written new
took_made kinds start c written old new key values g has same made index block groups none some =
    took kinds start c written old new g.key g.rows g.slots has index (block ∙ (λ i. old.block.items ++ (text_bytes (sym same i) ++ sym made i))) groups (λ e. none e ∙ sym same) some

-- the block is not full
opened : (kinds : List Bool) (start : ℕ) (c : Cut) (g : Group) (written : List ℕ) (w : BodyWriter) → Took kinds start c g written w → length w.block.items < 60_000 → Holds kinds start (cut_more kinds c g) written w
opened kinds start c g written w is less = subst (λ (d : Cut). Holds kinds start d written w) (sym same) holds
  where
    short : length (block_bytes kinds (c.begun ++ g ∷ [])) < 60_000
    short = omega (arith, less, ap length is.block)

    same : cut_more kinds c g ≡ record { full = c.full; begun = c.begun ++ g ∷ [] }
    same = cond_no (length (block_bytes kinds (c.begun ++ g ∷ []))) (record { full = c.full ++ (c.begun ++ g ∷ []) ∷ []; begun = [] }) (record { full = c.full; begun = c.begun ++ g ∷ [] }) short

    holds : Holds kinds start (record { full = c.full; begun = c.begun ++ g ∷ [] }) written w
    holds = record { written_is = is.written_is; each = is.each; index = is.index; block = is.block; many = is.many; first = λ some. is.first }

-- the block is full, and is written
filled : (kinds : List Bool) (start : ℕ) (c : Cut) (g : Group) (written : List ℕ) (mid new : BodyWriter) → Took kinds start c g written mid → 60_000 ≤ length mid.block.items → length mid.block.items ≤ 2 ^ 20
    → IsIndex kinds start (c.full ++ (c.begun ++ g ∷ []) ∷ []) new.index → new.block.items ≡ [] → new.groups ≡ 0 → Holds kinds start (cut_more kinds c g) (written ++ section mid.block.items) new
filled kinds start c g written mid new is more short index block groups = subst (λ (d : Cut). Holds kinds start d (written ++ section mid.block.items) new) (sym same) holds
  where
    long : 60_000 ≤ length (block_bytes kinds (c.begun ++ g ∷ []))
    long = omega (arith, more, ap length is.block)

    same : cut_more kinds c g ≡ record { full = c.full ++ (c.begun ++ g ∷ []) ∷ []; begun = [] }
    same = cond_yes (length (block_bytes kinds (c.begun ++ g ∷ []))) (record { full = c.full ++ (c.begun ++ g ∷ []) ∷ []; begun = [] }) (record { full = c.full; begun = c.begun ++ g ∷ [] }) long

    is_short : IsShort kinds (c.begun ++ g ∷ [])
    is_short = record { some = omega (arith, length-append c.begun (g ∷ [])); short = omega (arith, short, ap length is.block) }

    holds : Holds kinds start (record { full = c.full ++ (c.begun ++ g ∷ []) ∷ []; begun = [] }) (written ++ section mid.block.items) new
    holds = record {
      written_is = ap (λ (bs : List ℕ). bs ++ section mid.block.items) is.written_is ∙ ap (λ (bs : List ℕ). blocks_bytes kinds c.full ++ section bs) is.block ∙ sym (blocks-push kinds c.full (c.begun ++ g ∷ []));
      each = All-push (IsShort kinds) c.full (c.begun ++ g ∷ []) is.each is_short;
      index = index;
      block = block ∙ no_groups kinds;
      many = groups;
      first = λ some. absurd (omega (arith, some, groups));
    }

pub goes_open : (kinds : List Bool) (start : ℕ) (groups : List Group) (g : Group) (written out : List ℕ) (w : BodyWriter) → Took kinds start (cut kinds groups) g written w → length w.block.items < 60_000 → Goes kinds start (groups ++ g ∷ []) written out out w
goes_open kinds start groups g written out w is less = record {
  more = [];
  is = sym (append-nil out);
  taken = subst (λ (bs : List ℕ). HasTaken kinds start (groups ++ g ∷ []) bs w) (sym (append-nil written))
      (subst (λ (d : Cut). Holds kinds start d written w) (sym (cut-push kinds groups g)) (opened kinds start (cut kinds groups) g written w is less));
}

pub goes_full : (kinds : List Bool) (start : ℕ) (groups : List Group) (g : Group) (written out put : List ℕ) (mid new : BodyWriter) → Took kinds start (cut kinds groups) g written mid → 60_000 ≤ length mid.block.items → length mid.block.items ≤ 2 ^ 20
    → IsIndex kinds start ((cut kinds groups).full ++ ((cut kinds groups).begun ++ g ∷ []) ∷ []) new.index → new.block.items ≡ [] → new.groups ≡ 0 → put ≡ out ++ section mid.block.items → Goes kinds start (groups ++ g ∷ []) written out put new
goes_full kinds start groups g written out put mid new is more short index block many e = record {
  more = section mid.block.items;
  is = e;
  taken = subst (λ (d : Cut). Holds kinds start d (written ++ section mid.block.items) new) (sym (cut-push kinds groups g)) (filled kinds start (cut kinds groups) g written mid new is more short index block many);
}

-- ---- the end

-- the last block is written
pub record IsClosed (kinds : List Bool) (start : ℕ) (blocks : List (List Group)) (written old new : List ℕ) (index : Index) : Type 0 where
  pub more : List ℕ
  pub is : new ≡ old ++ more
  pub written_is : written ++ more ≡ blocks_bytes kinds blocks
  pub each : All (IsShort kinds) blocks
  pub index_is : IsIndex kinds start blocks index

-- what writing the last block does
pub record ClosesLast (old new : BodyWriter) (out put : List ℕ) : Type 0 where
  pub none : old.groups ≡ 0 → (put ≡ out) × (new.index ≡ old.index)
  pub some : 0 < old.groups → (put ≡ out ++ section old.block.items) × (length old.block.items ≤ 2 ^ 20)
  pub index : (kinds : List Bool) (start : ℕ) (blocks : List (List Group)) (block : List Group) → 0 < old.groups → IsIndex kinds start blocks old.index → old.first.items ≡ first_key block → old.groups ≡ length block
      → old.block.items ≡ block_bytes kinds block → IsIndex kinds start (blocks ++ block ∷ []) new.index

pub is_closed : (kinds : List Bool) (start : ℕ) (full : List (List Group)) (begun : List Group) (written out put : List ℕ) (old new : BodyWriter) → Holds kinds start (record { full = full; begun = begun }) written old → ClosesLast old new out put
    → IsClosed kinds start (closed full begun) written out put new.index
is_closed kinds start full [] written out put old new is closes =
    let none = closes.none is.many in
    record {
      more = [];
      is = none.0 ∙ sym (append-nil out);
      written_is = append-nil written ∙ is.written_is;
      each = is.each;
      index_is = subst (λ (i : Index). IsIndex kinds start full i) (sym none.1) is.index;
    }
is_closed kinds start full (g ∷ begun) written out put old new is closes =
    let many = is.many in
    let more : 0 < old.groups = omega (arith, many) in
    let some = closes.some more in
    let short = some.1 in
    record {
      more = section old.block.items;
      is = some.0;
      written_is = ap (λ (bs : List ℕ). bs ++ section old.block.items) is.written_is ∙ ap (λ (bs : List ℕ). blocks_bytes kinds full ++ section bs) is.block ∙ sym (blocks-push kinds full (g ∷ begun));
      each = All-push (IsShort kinds) full (g ∷ begun) is.each (record { some = omega arith; short = omega (arith, short, ap length is.block) });
      index_is = closes.index kinds start full (g ∷ begun) more is.index (is.first more) is.many is.block;
    }

-- the end of the blocks, the foot and the end of the file are written
pub ends : (kinds : List Bool) (start : ℕ) (groups : List Group) (written out mid put foot : List ℕ) (index : Index) → IsClosed kinds start (blocks_of kinds groups) written out mid index → foot ≡ foot_bytes kinds start (blocks_of kinds groups)
    → length foot ≤ 2 ^ 28 → put ≡ (mid ++ section []) ++ end_bytes foot → Ends kinds start groups written out put
unfolding body_bytes
ends kinds start groups written out mid put foot index is same short e = record {
  more = is.more ++ (section [] ++ end_bytes foot);
  is = e ∙ append_assoc mid (section []) (end_bytes foot) ∙ ap (λ (bs : List ℕ). bs ++ (section [] ++ end_bytes foot)) is.is ∙ append_assoc out is.more (section [] ++ end_bytes foot);
  body = sym (append_assoc written is.more (section [] ++ end_bytes foot)) ∙ ap (λ (bs : List ℕ). bs ++ (section [] ++ end_bytes foot)) is.written_is
      ∙ ap (λ (bs : List ℕ). blocks_bytes kinds (blocks_of kinds groups) ++ (section [] ++ end_bytes bs)) same;
  each = is.each;
  short = subst (λ (bs : List ℕ). length bs ≤ 2 ^ 28) same short;
}
