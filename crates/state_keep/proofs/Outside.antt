-- Blocks that are passed over have no group that is kept.
use Rattle.std.proofs.Common.{◌≡◌, ◌==◌, ◌<◌, ◌^◌, ◌&&◌, ◌||◌, ◌++◌, ◌∙◌, ℕ, Bool, true, false, List, [], ◌∷◌, All, ap, arith, cond, length, map, not, refl, sym}
use Rattle.std.specs.List.{AllByRecursion}
use Rattle.std.specs.List.Sorted.{IsStrictlySortedBy}
use Rattle.std.specs.Ordering.{is_lt, ordering_reverse}
use Rattle.std.specs.declared.cmp.Ordering.{Ordering}
use Rattle.std.specs.declared.cmp.Ordering.TheVariants.{Equal, Greater, Less}
use Rattle.std.proofs.lemmas.Bool.{true≢false}
use Rattle.std.proofs.lemmas.List.Elements.{All-cons, All-head, All-nil, All-tail}
use Rattle.par_model.specs.Table.{columns_cmp}
use Rattle.partial_agg.specs.Groups.{GroupsByKey, added}
use Rattle.result_text.specs.KeyColumns.{columns_in}
use Rattle.result_text.proofs.Columns.{columns_total}
use Rattle.state_blocks.specs.Blocks.{Group, IsBlock, IsTuple, block_bytes, blocks_bytes, first_key, tuple_bytes}
use Rattle.state_body.specs.Body.{groups_of}
use Rattle.state_file.specs.Section.{section}
use Rattle.state_head.specs.Words.{keys_of}
use Rattle.state_keep.specs.Passing.{AllOutside, BeginEarly}
use Rattle.state_order.specs.Order.{Rise}
use Rattle.state_order.specs.Ranges.{is_before, is_below, is_from, is_open, is_within}
use Rattle.state_whole.specs.Adding.{kept_sum, kept_with, key_of, state_of}
use Rattle.state_whole.specs.declared.adding.Kept.{Kept}
use Rattle.state_whole.specs.declared.adding.Shape.{Shape}

-- ---- the order of lines

is_less : (o : Ordering) → is_lt o ≡ true → o ≡ Less
is_less Less e = refl
is_less Equal e = cc
is_less Greater e = cc

abbrev Columns : Type 0
Columns = List (List ℕ)

-- what comes before a line comes before each that this line does not come after
less_through : (a b c : Columns) → columns_cmp a c ≡ Less → is_lt (columns_cmp b c) ≡ false → columns_cmp a b ≡ Less
less_through a b c less not_before = by (columns_cmp b c) refl not_before
  where
    by : (o : Ordering) → columns_cmp b c ≡ o → is_lt o ≡ false → columns_cmp a b ≡ Less
    by Less e after = cc
    by Equal e after =
        let turned : columns_cmp c a ≡ Greater = columns_total.antisymm c a ∙ ap ordering_reverse less in
        columns_total.antisymm a b ∙ ap ordering_reverse (columns_total.congr b c a e ∙ turned)
    by Greater e after = columns_total.trans a c b less (columns_total.antisymm c b ∙ ap ordering_reverse e)

-- ---- tests of a range

not_from : (free before : Bool) → free ≡ false → before ≡ true → (free || not before) ≡ false
not_from false true o b = refl
not_from true before o b = cc
not_from false false o b = cc

split_below : (free before : Bool) → (free || before) ≡ false → (free ≡ false) × (before ≡ false)
split_below false false e = (refl, refl)
split_below true before e = cc
split_below false true e = cc

no_low : (from below : Bool) → from ≡ false → (from && below) ≡ false
no_low false below e = refl
no_low true below e = cc

no_high : (from below : Bool) → below ≡ false → (from && below) ≡ false
no_high false below e = refl
no_high true false e = refl
no_high true true e = cc

not_true : (b : Bool) → not b ≡ true → b ≡ false
not_true true e = cc
not_true false e = refl

false_of : (b : Bool) → (b ≡ true → ⊥) → b ≡ false
false_of true none = absurd (none refl)
false_of false none = refl

not_both : (b : Bool) → b ≡ true → b ≡ false → ⊥
not_both true e f = cc
not_both false e f = cc

-- ---- after the high end

-- a key after one that is not below an end is not below it
past_more : (n : ℕ) (high a b : List ℕ) → is_below n high a ≡ false → columns_cmp (columns_in n a) (columns_in n b) ≡ Less → is_below n high b ≡ false
past_more n high a b past less =
    let s = split_below (is_open high) (is_before n a high) past in
    let later : is_before n b high ≡ false = false_of (is_before n b high) (λ e. not_both (is_before n a high)
    (ap is_lt (columns_total.trans (columns_in n a) (columns_in n b) (columns_in n high) less (is_less (columns_cmp (columns_in n b) (columns_in n high)) e))) s.1) in
    (λ i. s.0 i || later i)

past_rest : (kept : Kept) (key : List ℕ) (gs more : List Group) → is_below kept.columns kept.range.high.now key ≡ false
    → AllByRecursion (λ y. columns_cmp (columns_in kept.columns key) y ≡ Less) (map (columns_in kept.columns) (map key_of (gs ++ more))) → AllOutside kept gs
past_rest kept key [] more past above = All-nil (λ (g : Group). is_within kept.columns (keys_of kept.range) g.key ≡ false)
past_rest kept key (g ∷ gs) more past above =
    All-cons (λ (h : Group). is_within kept.columns (keys_of kept.range) h.key ≡ false) g gs
    (no_high (is_from kept.columns kept.range.low.now g.key) (is_below kept.columns kept.range.high.now g.key) (past_more kept.columns kept.range.high.now key g.key past above.0)) (past_rest kept key gs more past above.1)

pub past_outside : (kept : Kept) (block : List Group) (later : List (List Group)) → 0 < length block → Rise kept.columns (map key_of (groups_of (block ∷ later))) → is_below kept.columns kept.range.high.now (first_key block) ≡ false → AllOutside kept block
unfolding IsStrictlySortedBy
past_outside kept [] later some rise past = absurd (omega (arith, some))
past_outside kept (g ∷ gs) later some rise past =
    All-cons (λ (h : Group). is_within kept.columns (keys_of kept.range) h.key ≡ false) g gs (no_high (is_from kept.columns kept.range.low.now g.key) (is_below kept.columns kept.range.high.now g.key) past) (past_rest kept g.key gs (groups_of later) past rise.0)

-- ---- before the low end

at_next : (n : ℕ) (P : Columns → Type 0) (gs : List Group) (h : Group) (more : List Group) → AllByRecursion P (map (columns_in n) (map key_of (gs ++ h ∷ more))) → P (columns_in n h.key)
at_next n P [] h more all = all.0
at_next n P (g ∷ gs) h more all = at_next n P gs h more all.1

early_each : (kept : Kept) (gs : List Group) (h : Group) (more : List Group) → is_open kept.range.low.now ≡ false → is_before kept.columns kept.range.low.now h.key ≡ false → Rise kept.columns (map key_of (gs ++ h ∷ more)) → AllOutside kept gs
unfolding IsStrictlySortedBy
early_each kept [] h more closed early rise = All-nil (λ (g : Group). is_within kept.columns (keys_of kept.range) g.key ≡ false)
early_each kept (g ∷ gs) h more closed early rise =
    let n = kept.columns in
    let low = kept.range.low.now in
    let less = at_next n (λ y. columns_cmp (columns_in n g.key) y ≡ Less) gs h more rise.0 in
    let before : is_before n g.key low ≡ true = ap is_lt (less_through (columns_in n g.key) (columns_in n low) (columns_in n h.key) less early) in
    All-cons (λ (h : Group). is_within kept.columns (keys_of kept.range) h.key ≡ false) g gs
    (no_low (is_from n low g.key) (is_below n kept.range.high.now g.key) (not_from (is_open low) (is_before n g.key low) closed before)) (early_each kept gs h more closed early rise.1)

pub early_outside : (columns : ℕ) (kinds : List Bool) (kept : Kept) (block : List Group) (later : List (List Group)) → All (IsBlock columns kinds) later → Rise kept.columns (map key_of (groups_of (block ∷ later))) → BeginEarly kept later → AllOutside kept block
early_outside columns kinds kept block [] all rise early = absurd early
early_outside columns kinds kept block ([] ∷ later) all rise early =
    let head = All-head (IsBlock columns kinds) [] later all in
    let some = head.some in
    absurd (omega (arith, some))
early_outside columns kinds kept block ((h ∷ hs) ∷ later) all rise early = early_each kept block h (hs ++ groups_of later) early.0 early.1 rise

-- ---- what is passed over changes nothing

pub none_kept : (shape : Shape) (kept : Kept) (groups : List Group) (m : GroupsByKey) → AllOutside kept groups → kept_sum shape kept m groups ≡ m
none_kept shape kept [] m all = refl
none_kept shape kept (g ∷ groups) m all =
    let P : Group → Type 0 = λ (h : Group). is_within kept.columns (keys_of kept.range) h.key ≡ false in
    let here : kept_with kept m g.key (state_of shape g) ≡ m = ap (λ (b : Bool). cond b (added m g.key (state_of shape g)) m) (All-head P g groups all) in
    ap (λ (x : GroupsByKey). kept_sum shape kept x groups) here ∙ none_kept shape kept groups m (All-tail P g groups all)

-- keys that rise go on rising after some of them
pub rise_later : (n : ℕ) (gs more : List Group) → Rise n (map key_of (gs ++ more)) → Rise n (map key_of more)
unfolding IsStrictlySortedBy
rise_later n [] more rise = rise
rise_later n (g ∷ gs) more rise = rise_later n gs more rise.1

-- ---- the first key of some blocks

pub early_of : (columns : ℕ) (kinds : List Bool) (kept : Kept) (later : List (List Group)) (after part key : List ℕ) (less : Bool) → All (IsBlock columns kinds) later → after ≡ blocks_bytes kinds later → 0 < length after
    → ((p r : List ℕ) → length p < 2 ^ 32 → after ≡ section p ++ r → part ≡ p) → ((g : Group) (r : List ℕ) → IsTuple columns kinds g → part ≡ tuple_bytes kinds g ++ r → key ≡ g.key)
    → is_open kept.range.low.now ≡ false → less ≡ is_before kept.columns kept.range.low.now key → not less ≡ true → BeginEarly kept later
unfolding blocks_bytes block_bytes
early_of columns kinds kept [] after part key less all e some split first closed test holds = absurd (omega (arith, some, ap length e))
early_of columns kinds kept ([] ∷ later) after part key less all e some split first closed test holds =
    let head = All-head (IsBlock columns kinds) [] later all in
    let long = head.some in
    absurd (omega (arith, long))
early_of columns kinds kept ((h ∷ hs) ∷ later) after part key less all e some split first closed test holds =
    let head = All-head (IsBlock columns kinds) (h ∷ hs) later all in
    let short = head.short in
    let p = split (block_bytes kinds (h ∷ hs)) (blocks_bytes kinds later) (omega (arith, short)) e in
    let k = first h (block_bytes kinds hs) (All-head (IsTuple columns kinds) h hs head.each) p in
    (closed, ap (is_before kept.columns kept.range.low.now) (sym k) ∙ sym test ∙ not_true less holds)

pub past_of : (columns : ℕ) (kinds : List Bool) (kept : Kept) (block : List Group) (part key : List ℕ) (less : Bool) → IsBlock columns kinds block → part ≡ block_bytes kinds block
    → ((g : Group) (r : List ℕ) → IsTuple columns kinds g → part ≡ tuple_bytes kinds g ++ r → key ≡ g.key)
    → is_open kept.range.high.now ≡ false → less ≡ is_before kept.columns key kept.range.high.now → not less ≡ true → is_below kept.columns kept.range.high.now (first_key block) ≡ false
unfolding block_bytes
past_of columns kinds kept [] part key less is e first closed test holds =
    let some = is.some in
    absurd (omega (arith, some))
past_of columns kinds kept (g ∷ gs) part key less is e first closed test holds =
    let k = first g (block_bytes kinds gs) (All-head (IsTuple columns kinds) g gs is.each) e in
    let no : is_before kept.columns g.key kept.range.high.now ≡ false = ap (λ (x : List ℕ). is_before kept.columns x kept.range.high.now) (sym k) ∙ sym test ∙ not_true less holds in
    (λ i. closed i || no i)

-- an end that has bytes is no open one
pub is_closed : (low : List ℕ) (b : Bool) → b ≡ (length low == 0) → b ≡ false → is_open low ≡ false
is_closed [] b e f = absurd (true≢false (sym e ∙ f))
is_closed (x ∷ low) b e f = refl

pub not_empty : (bs : List ℕ) (b : Bool) → b ≡ (length bs == 0) → b ≡ false → 0 < length bs
not_empty [] b e f = absurd (true≢false (sym e ∙ f))
not_empty (x ∷ bs) b e f = omega arith
