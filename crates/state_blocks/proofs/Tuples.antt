-- Groups one after another: what is read of them so far.
use Rattle.std.proofs.Common.{◌≡◌, ◌<◌, ◌≤◌, ◌+◌, ◌/◌, ◌%◌, ◌++◌, ◌∙◌, ℕ, zero, suc, Bool, List, [], ◌∷◌, All, ap, append_assoc, append-nil, arith, length, length-append, nat_lt, refl, subst, sym}
use Rattle.std.specs.List.{flat_map}
use Rattle.std.proofs.lemmas.Bool.{cond_both}
use Rattle.std.proofs.lemmas.List.Elements.{All-head, All-nil, All-push, All-tail}
use Rattle.par_model.specs.declared.state.SlotState.{SlotState}
use Rattle.state_blocks.specs.Blocks.{Group, IsTuple, StopsAfter, block_bytes, tuple_bytes}
use Rattle.std.specs.Int.{to_le_bytes, w32}
use Rattle.state_file.specs.Checksum.{crc32c}
use Rattle.state_file.specs.Section.{section}
use Rattle.state_file.specs.Number.{number_bytes, sevens}
use Rattle.state_file.specs.Text.{text_bytes}
use Rattle.state_groups.specs.Group.{IsGroup, group_bytes, slots_bytes}
use Rattle.state_head.proofs.Reading.{GoesOn, IsReadTo, Left, none_read, one_more}

sevens_some : (more n : ℕ) → 0 < length (sevens more n)
unfolding sevens
sevens_some zero n = omega arith
sevens_some (suc more) n = cond_both (nat_lt n 128) (n ∷ []) ((128 + n % 128) ∷ sevens more (n / 128)) (λ (bs : List ℕ). 0 < length bs) (λ _. omega arith) (λ _. omega arith)

number_some : (n : ℕ) → 0 < length (number_bytes n)
unfolding number_bytes
number_some n = sevens_some 18 n

front_some : (a b c : List ℕ) → 0 < length a → 0 < length ((a ++ b) ++ c)
front_some a b c some = omega (arith, some, length-append (a ++ b) c, length-append a b)

-- no group has no bytes
pub tuple_some : (kinds : List Bool) (g : Group) → 0 < length (tuple_bytes kinds g)
unfolding tuple_bytes text_bytes
tuple_some kinds g = front_some (number_bytes (length g.key)) g.key (number_bytes g.rows ++ slots_bytes kinds g.slots) (number_some (length g.key))

-- a group of these parts
abbrev pub made_of : List ℕ → ℕ → List SlotState → Group
made_of key rows slots = record { key = key; rows = rows; slots = slots }

pub tuple_read : (kinds : List Bool) (bytes key after : List ℕ) (rows : ℕ) (slots : List SlotState) → bytes ≡ group_bytes kinds key rows slots ++ after → bytes ≡ tuple_bytes kinds (made_of key rows slots) ++ after
unfolding tuple_bytes
tuple_read kinds bytes key after rows slots e = e

pub tuple_written : (kinds : List Bool) (bytes more : List ℕ) (g : Group) → bytes ≡ tuple_bytes kinds g ++ more → bytes ≡ group_bytes kinds g.key g.rows g.slots ++ more
unfolding tuple_bytes
tuple_written kinds bytes more g e = e

-- some groups were written, and nothing after them
abbrev pub Wrote : ℕ → List Bool → List Group → List ℕ → Type 0
Wrote columns kinds all more = All (IsTuple columns kinds) all × (more ≡ [])

-- this many groups are read, each of at least one byte
pub record IsBlockTo (columns : ℕ) (kinds : List Bool) (bytes rest : List ℕ) (at : ℕ) : Type 0 where
  pub found : List Group
  pub so_far : IsReadTo (tuple_bytes kinds) (All (IsTuple columns kinds)) (Wrote columns kinds) bytes found rest
  pub many : length found ≡ at
  pub room : at + length rest ≤ length bytes

pub no_group : (columns : ℕ) (kinds : List Bool) (bytes : List ℕ) → IsBlockTo columns kinds bytes bytes 0
no_group columns kinds bytes = record {
  found = [];
  so_far = none_read (tuple_bytes kinds) (All (IsTuple columns kinds)) (Wrote columns kinds) bytes (All-nil (IsTuple columns kinds));
  many = refl;
  room = omega arith;
}

-- what one more group of all that were written is
record IsOneMore (columns : ℕ) (kinds : List Bool) (rest : List ℕ) (tail : List Group) (more : List ℕ) : Type 0 where
  pub g : Group
  pub later : List Group
  pub is_tuple : IsTuple columns kinds g
  pub is : tail ≡ g ∷ later
  pub begins : rest ≡ tuple_bytes kinds g ++ (flat_map (tuple_bytes kinds) later ++ more)

middle : (columns : ℕ) (kinds : List Bool) (found : List Group) (g : Group) (later : List Group) → All (IsTuple columns kinds) (found ++ g ∷ later) → IsTuple columns kinds g
middle columns kinds [] g later all = All-head (IsTuple columns kinds) g later all
middle columns kinds (f ∷ found) g later all = middle columns kinds found g later (All-tail (IsTuple columns kinds) f (found ++ g ∷ later) all)

one_of : (columns : ℕ) (kinds : List Bool) (rest : List ℕ) (found : List Group) → 0 < length rest → (all : List Group) (more : List ℕ) → Wrote columns kinds all more
    → (l : Left (tuple_bytes kinds) all found rest more) → IsOneMore columns kinds rest l.tail more
one_of columns kinds rest found h all more wrote l = go l.tail l.whole l.left
  where
    go : (tail : List Group) → all ≡ found ++ tail → rest ≡ flat_map (tuple_bytes kinds) tail ++ more → IsOneMore columns kinds rest tail more
    go [] e f =
        let none : length rest ≡ 0 = ap length (f ∙ wrote.1) in
        absurd (omega (arith, h, none))
    go (g ∷ later) e f = record {
      g = g;
      later = later;
      is_tuple = middle columns kinds found g later (subst (λ (gs : List Group). All (IsTuple columns kinds) gs) e wrote.0);
      is = refl;
      begins = f ∙ append_assoc (tuple_bytes kinds g) (flat_map (tuple_bytes kinds) later) more;
    }

-- a group more is read
pub group_more : (columns : ℕ) (kinds : List Bool) (bytes rest : List ℕ) (at : ℕ) (key : List ℕ) (rows : ℕ) (slots : List SlotState) (after : List ℕ) → 0 < length rest → IsBlockTo columns kinds bytes rest at
    → rest ≡ group_bytes kinds key rows slots ++ after → IsGroup columns kinds key rows slots
    → ((k : List ℕ) (n : ℕ) (ss : List SlotState) (more : List ℕ) → IsGroup columns kinds k n ss → rest ≡ group_bytes kinds k n ss ++ more → (key ≡ k) × (after ≡ more) × (rows ≡ n) × (slots ≡ ss))
    → IsBlockTo columns kinds bytes after (at + 1)
group_more columns kinds bytes rest at key rows slots after some is e good same =
    let x = made_of key rows slots in
    let begins = tuple_read kinds rest key after rows slots e in
    let some_bytes = tuple_some kinds x in
    let long = ap length begins ∙ length-append (tuple_bytes kinds x) after in
    let many = is.many in
    let room = is.room in
    let more_found : length (is.found ++ x ∷ []) ≡ length is.found + 1 = length-append is.found (x ∷ []) in
    record {
      found = is.found ++ x ∷ [];
      so_far = one_more (tuple_bytes kinds) (All (IsTuple columns kinds)) (Wrote columns kinds) bytes is.found rest x after is.so_far begins (All-push (IsTuple columns kinds) is.found x is.so_far.are good)
          (λ all more wrote l.
          let o = one_of columns kinds rest is.found some all more wrote l in
          let m = same o.g.key o.g.rows o.g.slots (flat_map (tuple_bytes kinds) o.later ++ more) o.is_tuple (tuple_written kinds rest (flat_map (tuple_bytes kinds) o.later ++ more) o.g o.begins) in
          record { later = o.later; is = o.is ∙ ap (λ (g : Group). g ∷ o.later) (sym (as_one x o.g m.0 m.2 m.3)); left = m.1 });
      many = omega (arith, more_found, many);
      room = omega (arith, some_bytes, long, room);
    }
  where
    as_one : (f g : Group) → f.key ≡ g.key → f.rows ≡ g.rows → f.slots ≡ g.slots → f ≡ g
    as_one f g e1 e2 e3 = ap (λ (k : List ℕ). made_of k f.rows f.slots) e1 ∙ ap (λ (n : ℕ). made_of g.key n f.slots) e2 ∙ ap (λ (ss : List SlotState). made_of g.key g.rows ss) e3

-- no group is read where one was written
none_of : (columns : ℕ) (kinds : List Bool) (rest : List ℕ) → ((k : List ℕ) (n : ℕ) (ss : List SlotState) (more : List ℕ) → IsGroup columns kinds k n ss → rest ≡ group_bytes kinds k n ss ++ more → ⊥)
    → (g : Group) (more : List ℕ) → IsTuple columns kinds g → rest ≡ tuple_bytes kinds g ++ more → ⊥
none_of columns kinds rest none g more is e = none g.key g.rows g.slots more is (tuple_written kinds rest more g e)

pub group_none : (columns : ℕ) (kinds : List Bool) (bytes rest : List ℕ) (at : ℕ) → 0 < length rest → IsBlockTo columns kinds bytes rest at
    → ((k : List ℕ) (n : ℕ) (ss : List SlotState) (more : List ℕ) → IsGroup columns kinds k n ss → rest ≡ group_bytes kinds k n ss ++ more → ⊥)
    → (block : List Group) → All (IsTuple columns kinds) block → bytes ≡ block_bytes kinds block → ⊥
unfolding block_bytes
group_none columns kinds bytes rest at some is none block all e =
    let l = is.so_far.left block [] (all, refl) (e ∙ sym (append-nil (flat_map (tuple_bytes kinds) block))) in
    let o = one_of columns kinds rest is.found some block [] (all, refl) l in
    none_of columns kinds rest none o.g (flat_map (tuple_bytes kinds) o.later ++ []) o.is_tuple o.begins

pub stops : (columns : ℕ) (kinds : List Bool) (bytes rest : List ℕ) (at : ℕ) → 0 < length rest → IsBlockTo columns kinds bytes rest at
    → ((k : List ℕ) (n : ℕ) (ss : List SlotState) (more : List ℕ) → IsGroup columns kinds k n ss → rest ≡ group_bytes kinds k n ss ++ more → ⊥)
    → StopsAfter columns kinds bytes at
unfolding block_bytes
stops columns kinds bytes rest at some is none = record { front = is.found; many = is.many; rest = rest; is = is.so_far.read; goes_on = some; none = none_of columns kinds rest none }

-- a whole block
pub record IsWholeBlock (columns : ℕ) (kinds : List Bool) (bytes : List ℕ) (at : ℕ) : Type 0 where
  pub block : List Group
  pub is : bytes ≡ block_bytes kinds block
  pub each : All (IsTuple columns kinds) block
  pub many : length block ≡ at

empty_is : (bs : List ℕ) → length bs ≡ 0 → bs ≡ []
empty_is [] e = refl
empty_is (b ∷ bs) e = absurd (omega (arith, e))

pub whole_block : (columns : ℕ) (kinds : List Bool) (bytes rest : List ℕ) (at : ℕ) → length rest ≡ 0 → IsBlockTo columns kinds bytes rest at → IsWholeBlock columns kinds bytes at
unfolding block_bytes
whole_block columns kinds bytes rest at none is = record {
  block = is.found;
  is = is.so_far.read ∙ ap (λ (bs : List ℕ). flat_map (tuple_bytes kinds) is.found ++ bs) (empty_is rest none) ∙ append-nil (flat_map (tuple_bytes kinds) is.found);
  each = is.so_far.are;
  many = is.many;
}

pub whole_written : (columns : ℕ) (kinds : List Bool) (bytes rest : List ℕ) (at : ℕ) → length rest ≡ 0 → IsBlockTo columns kinds bytes rest at
    → (block : List Group) → All (IsTuple columns kinds) block → bytes ≡ block_bytes kinds block → at ≡ length block
unfolding block_bytes
whole_written columns kinds bytes rest at none is block all e = go (is.so_far.left block [] (all, refl) (e ∙ sym (append-nil (flat_map (tuple_bytes kinds) block))))
  where
    done : (tail : List Group) → block ≡ is.found ++ tail → rest ≡ flat_map (tuple_bytes kinds) tail ++ [] → at ≡ length block
    done [] f g = sym is.many ∙ sym (ap length (f ∙ append-nil is.found))
    done (t ∷ tail) f g =
        let some = tuple_some kinds t in
        let later = flat_map (tuple_bytes kinds) tail in
        let is_so : rest ≡ (tuple_bytes kinds t ++ later) ++ [] = g in
        let long = ap length is_so in
        absurd (omega (arith, none, some, long, length-append (tuple_bytes kinds t ++ later) [], length-append (tuple_bytes kinds t) later))

    go : Left (tuple_bytes kinds) block is.found rest [] → at ≡ length block
    go l = done l.tail l.whole l.left

-- ---- a section

-- its parts, one after another
pub section_parts : (bytes part rest : List ℕ) → bytes ≡ section part ++ rest → bytes ≡ to_le_bytes w32 (length part) ++ (part ++ (to_le_bytes w32 (crc32c part) ++ rest))
unfolding section
section_parts bytes part rest e =
    e ∙ append_assoc (to_le_bytes w32 (length part)) (part ++ to_le_bytes w32 (crc32c part)) rest ∙ ap (λ (bs : List ℕ). to_le_bytes w32 (length part) ++ bs) (append_assoc part (to_le_bytes w32 (crc32c part)) rest)

pub sum_long : (part : List ℕ) → length (to_le_bytes w32 (crc32c part)) ≡ 4
sum_long part = refl

-- and how long they are
pub split_long : (bytes after part more sum rest : List ℕ) (size : ℕ) → bytes ≡ to_le_bytes w32 size ++ after → after ≡ part ++ more → more ≡ sum ++ rest → length sum ≡ 4 → length part + length rest + 8 ≡ length bytes
split_long bytes after part more sum rest size one two three four =
    let front : length (to_le_bytes w32 size) ≡ 4 = refl in
    let a = ap length one ∙ length-append (to_le_bytes w32 size) after in
    let b = ap length two ∙ length-append part more in
    let d = ap length three ∙ length-append sum rest in
    omega (arith, front, a, b, d, four)
