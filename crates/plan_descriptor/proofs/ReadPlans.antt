-- The plan that is read from words, each of which is allowed.
use Rattle.std.proofs.Common.{◌≡◌, ◌<◌, ◌≤◌, ◌+◌, ◌-◌, ◌*◌, ◌^◌, ◌∙◌, ℕ, zero, suc, Bool, FitsSigned, if◌then◌else◌, List, Option, ap, arith, drop, get_or, length, nat_eq, refl, replicate, sym, take, w64}
use Rattle.std.proofs.lemmas.List.{ext_get_or, get_or-drop, get_or-replicate, get_or_default, length-drop, length-replicate, length-take}
use Rattle.std.proofs.lemmas.List.Elements.{All-take}
use Rattle.std.proofs.lemmas.List.FromFn.{fill_by_all}
use Rattle.std.specs.Option.{ForSome}
use Rattle.std.specs.Prelude.{All, slice_index, slice_index_or}
use Rattle.par_model.specs.Plan.{Plan}
use Rattle.par_model.specs.PlanLayout.{IsPadded, plan_of, unused}
use Rattle.par_model.specs.declared.plan.BoundPlan.TheInside.{Inside}
use Rattle.par_model.specs.declared.plan.Filter.{Filter}
use Rattle.plan_descriptor.specs.declared.words.NumberFilter.{NumberFilter}
use Rattle.par_model.specs.declared.plan.Item.{Item}
use Rattle.par_model.specs.declared.plan.ItemKind.{ItemKind}
use Rattle.par_model.specs.declared.plan.ItemKind.TheVariants as kind
use Rattle.par_model.specs.declared.plan.TheConstants.{MOST_PLACES}
use Rattle.plan_descriptor.proofs.Allowed.{Allowed}
use Rattle.plan_descriptor.proofs.Columns.{no_places, same_parts, zero_parts}
use Rattle.plan_descriptor.proofs.Filters.{filter_back, is_plain_back, places_of_filter}
use Rattle.plan_descriptor.proofs.Padded.{padded}
use Rattle.plan_descriptor.proofs.Sections.{by_four, by_section, by_two, word_of_filter, word_of_group, word_of_head, word_of_item}
use Rattle.plan_descriptor.specs.Descriptor.{HasRoom, IsWritable, column_word, filter_word, head_word, item_word, kind_word, plain_filters, plan_word, plan_words, size_of}

-- the kind of a word
abbrev pub kind_of : ℕ → ItemKind
kind_of w = if nat_eq w 1 then kind.Count else (if nat_eq w 2 then kind.Sum else (if nat_eq w 3 then kind.Min else (if nat_eq w 4 then kind.Max else (if nat_eq w 5 then kind.Avg else kind.Rows))))

pub kind_of-word : (k : ItemKind) → kind_of (kind_word k) ≡ k
kind_of-word kind.Rows = refl
kind_of-word kind.Count = refl
kind_of-word kind.Sum = refl
kind_of-word kind.Min = refl
kind_of-word kind.Max = refl
kind_of-word kind.Avg = refl

-- an aggregate whose two words are known
pub same_item : (a b : Item) → kind_word a.kind ≡ kind_word b.kind → a.column < 2 ^ 32 → b.column < 2 ^ 32 → column_word a.column a.places ≡ column_word b.column b.places → a ≡ b
same_item a b kinds narrow narrow' columns =
    let same : a.kind ≡ b.kind = sym (kind_of-word a.kind) ∙ ap kind_of kinds ∙ kind_of-word b.kind in
    let parts = same_parts a.column b.column a.places b.places narrow narrow' columns in
    λ i. record { kind = same i; column = parts.0 i; places = parts.1 i }

one_or_none : (w : ℕ) → w ≤ 1 → (if nat_eq w 1 then 1 else 0) ≡ w
one_or_none zero h = refl
one_or_none (suc zero) h = refl
one_or_none (suc (suc w)) h = absurd (omega arith)

-- a list of eight that ends as a fill does
ends : {X : Type 0} (xs : List X) (n : ℕ) (z : X) → length xs ≡ 8 → n ≤ 8 → ((i : ℕ) → i < 8 → n ≤ i → get_or xs i z ≡ z) → drop n xs ≡ replicate (8 - n) z
ends xs n z size small each =
    ext_get_or z (drop n xs) (replicate (8 - n) z) (length-drop n xs ∙ ap (λ m. m - n) size ∙ sym (length-replicate (8 - n) z))
    (λ i h.
    let room : i < 8 - n = omega (arith, length-drop n xs, h) in
    get_or-drop n xs i z ∙ each (n + i) (omega arith) (omega arith) ∙ sym (get_or-replicate (8 - n) i z z room))

module _ (words groups : List ℕ) (items : List Item) (hash : Bool) (filters : List Filter) (count : ℕ) (filter : Option NumberFilter) (is : Allowed words)
    (groups_size : length groups ≡ 8) (columns : (i : ℕ) → i < 8 → slice_index groups i ≡ slice_index words (4 + i))
    (items_size : length items ≡ 8) (kinds : (i : ℕ) → i < 8 → kind_word (slice_index_or items i unused).kind ≡ slice_index words (12 + 2 * i))
    (item_columns : (i : ℕ) → i < 8 → column_word (slice_index_or items i unused).column (slice_index_or items i unused).places ≡ slice_index words (13 + 2 * i))
    (narrow : (i : ℕ) → i < 8 → (slice_index_or items i unused).column < 2 ^ 32) (few : (i : ℕ) → i < 8 → (slice_index_or items i unused).places ≤ MOST_PLACES)
    (fits : ForSome filter (λ f. (f.column < 2 ^ 32) × (f.places ≤ MOST_PLACES) × FitsSigned w64 f.value))
    (filters_are : take count filters ≡ plain_filters filter) (filters_few : count ≤ 8) (filters_places : All (λ f. f.places ≤ MOST_PLACES) filters) where
  abbrev pub read : Inside
  read = record { groups = groups; group_count = slice_index words 1; items = items; item_count = slice_index words 2; hash = hash; filters = filters; filter_count = count }

  pub padded_plan : IsPadded read
  padded_plan = record {
    groups_fit = is.groups;
    some_item = is.some_item;
    items_fit = is.items;
    groups_end = ends groups (slice_index words 1) 0 groups_size is.groups (λ i h past. columns i h ∙ is.groups_end i h past);
    items_end = ends items (slice_index words 2) unused items_size is.items
        (λ i h past. same_item (slice_index_or items i unused) unused (kinds i h ∙ is.kinds_end i h past) (narrow i h) (omega arith) (item_columns i h ∙ is.no_column i h (is.kinds_end i h past)));
    no_column = λ i d h rows.
        let within : i < 8 = omega (arith, items_size) in
        let same = get_or_default items i d unused h in
        let none : kind_word (slice_index_or items i unused).kind ≡ 0 = ap kind_word (rw same at rows) in
        rw same (zero_parts (slice_index_or items i unused).column (slice_index_or items i unused).places (item_columns i within ∙ is.no_column i within (sym (kinds i within) ∙ none)));
    item_places = λ i d h.
        let within : i < 8 = omega (arith, items_size) in
        rw (get_or_default items i d unused h) (few i within);
    filters_fit = filters_few;
    filter_places = filters_places;
  }

  -- the plan of these arrays
  abbrev plan : Plan
  plan = plan_of read

  group_is : (i : ℕ) → i < 8 → slice_index plan.groups i ≡ slice_index words (4 + i)
  group_is i h = padded groups plan.groups (slice_index words 1) (8 - slice_index words 1) i 0 refl padded_plan.groups_end ∙ columns i h

  item_is : (i : ℕ) → slice_index_or plan.items i unused ≡ slice_index_or items i unused
  item_is i = padded items plan.items (slice_index words 2) (8 - slice_index words 2) i unused refl padded_plan.items_end

  groups_length : length plan.groups ≡ slice_index words 1
  groups_length = omega (arith, length-take (slice_index words 1) groups, groups_size, is.groups)

  items_length : length plan.items ≡ slice_index words 2
  items_length = omega (arith, length-take (slice_index words 2) items, items_size, is.items)

  pub read_room : HasRoom plan
  read_room = record {
    groups = omega (arith, groups_length, is.groups);
    some_item = omega (arith, items_length, is.some_item);
    items = omega (arith, items_length, is.items);
    no_column = All-take (λ (item : Item). item.kind ≡ kind.Rows → (item.column ≡ 0) × (item.places ≡ 0)) (slice_index words 2) items padded_plan.no_column;
    item_places = All-take (λ (item : Item). item.places ≤ MOST_PLACES) (slice_index words 2) items padded_plan.item_places;
    filter_places = places_of_filter plan (All-take (λ (f : Filter). f.places ≤ MOST_PLACES) count filters filters_places);
  }

  pub read_writable : IsWritable plan
  read_writable = record {
    plain = is_plain_back plan filter filters_are;
    room = read_room;
    group_columns = λ i d h.
        let within : i < 8 = omega (arith, groups_length, is.groups) in
        rw (get_or_default plan.groups i d 0 h) (rw (group_is i within) (is.group_columns i within));
    item_columns = λ i d h.
        let within : i < 8 = omega (arith, items_length, is.items) in
        rw (get_or_default plan.items i d unused h) (rw (item_is i) (narrow i within));
    filter = λ f is. let there = sym (filter_back plan filter filters_are) ∙ is in ((fits f there).0, (fits f there).2);
  }

  -- version 1 has no places
  pub read_old : slice_index words 0 ≡ 1 → All (λ item. item.places ≡ 0) plan.items
  read_old one = λ i d h.
      let within : i < 8 = omega (arith, items_length, is.items) in
      rw (get_or_default plan.items i d unused h)
      (rw (item_is i) (no_places (slice_index_or items i unused).column (slice_index_or items i unused).places (slice_index words (13 + 2 * i)) (item_columns i within) (is.old_columns one i within)))

  module _ (hash_is : hash ≡ nat_eq (slice_index words 3) 1) (version : ℕ) (is_version : slice_index words 0 ≡ version)
      (filter_is : (k : ℕ) → k < 4 → 28 + k < size_of version → filter_word filter k ≡ slice_index words (28 + k)) where
    hash_word : (if hash then 1 else 0) ≡ slice_index words 3
    hash_word = rw hash_is (one_or_none (slice_index words 3) is.hash)

    each_word : (k : ℕ) → k < 32 → k < size_of version → slice_index words k ≡ plan_word version plan k
    each_word = by_section (λ k. k < size_of version → slice_index words k ≡ plan_word version plan k)
        (λ k h within. rw (word_of_head version plan k h) (by_four (λ k. slice_index words k ≡ head_word version plan k) is_version (sym groups_length) (sym items_length) (sym hash_word) k h))
        (λ i h within. sym (word_of_group version plan i h ∙ group_is i h))
        (λ i k h low within. rw (word_of_item version plan i k h low)
        (rw (item_is i) (by_two (λ k. slice_index words (12 + 2 * i + k) ≡ item_word (slice_index_or items i unused) k)
        (let same : 12 + 2 * i ≡ 12 + 2 * i + 0 = omega arith in rw same at (sym (kinds i h)))
        (let same : 13 + 2 * i ≡ 12 + 2 * i + 1 = omega arith in rw same at (sym (item_columns i h))) k low)))
        (λ k h within. sym (word_of_filter version plan k ∙ ap (λ o. filter_word o k) (filter_back plan filter filters_are) ∙ filter_is k h within))

    -- the words are those of the plan
    pub read_words : length words ≡ size_of version → size_of version ≤ 32 → words ≡ plan_words version plan
    unfolding plan_words
    read_words size few = fill_by_all (plan_word version plan) words (size_of version) 0 size (λ k h. each_word k (omega arith) h)
