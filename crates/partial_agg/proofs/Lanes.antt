-- States that lie as lanes: what the list of states becomes where their lanes change.
use Rattle.std.proofs.Common.{◌≡◌, ◌<◌, ◌≤◌, ◌+◌, ◌*◌, ◌%◌, ◌^◌, ◌==◌, ◌++◌, ◌∙◌, ℕ, ℤ, zero, suc, pos, Bool, true, false, if◌then◌else◌, List, [], ◌∷◌, Some, refl, ap, sym, arith, append_assoc, drop, get_or, length, map, set, take, length-append, length-drop, length-take, add-one}
use Rattle.std.proofs.Math.Seq.{drop-append_seam, take-add, take-append_seam}
use Rattle.std.proofs.lemmas.List.{drop-append-le, drop-drop, drop-take, get_or-map, get_or-take, length-map, length-take-le, map_more, take-append-le, take-take, take_all, take_more, take_more_set}
use Rattle.std.proofs.lemmas.Option.{get_or_from_slice_get}
use Rattle.std.specs.Int.{int_max, int_min, int_wrap}
use Rattle.std.specs.List.{slice_get}
use Rattle.par_model.specs.Aggregate.{no_values}
use Rattle.par_model.specs.declared.state.AggState.{AggState}
use Rattle.par_model.specs.declared.state.SlotState.{SlotState}
use Rattle.partial_agg.specs.Lanes.{Fits, IsWide, lanes_of, slot_in, slots_in, states_in, with_lanes}
use Rattle.partial_agg.specs.State.{among, combined, combined_slot, combined_slots, empty_state, without_integers}
use Rattle.partial_agg.specs.declared.layout.Layout.{Layout}
use Rattle.partial_agg.specs.declared.layout.SlotPart.{SlotPart}
use Rattle.partial_agg.specs.declared.layout.SlotPart.TheVariants as part

-- to combine lanes is to combine the slots that they stand for
among_zeros : (choose : ℤ → ℤ → ℤ) → choose (pos 0) (pos 0) ≡ pos 0 → (m n : ℕ) → among choose m n (pos 0) (pos 0) ≡ pos 0
among_zeros choose zeros m n = by (m == 0) (n == 0)
  where
    by : (a b : Bool) → (if a then pos 0 else (if b then pos 0 else choose (pos 0) (pos 0))) ≡ pos 0
    by true b = refl
    by false true = refl
    by false false = zeros

none-combined : no_values ≡ combined_slot no_values no_values
unfolding int_wrap
none-combined = refl

without-combined : (a b : SlotState) → without_integers (combined_slot a b) ≡ combined_slot (without_integers a) (without_integers b)
unfolding int_wrap
without-combined a b = λ i. record {
  count = (a.count + b.count) % 2 ^ 64;
  sum = pos 0;
  least = sym (among_zeros int_min refl a.count b.count) i;
  greatest = sym (among_zeros int_max refl a.count b.count) i;
}

get-combined : (a b : List SlotState) (k : ℕ) → length a ≡ length b → get_or (combined_slots a b) k no_values ≡ combined_slot (get_or a k no_values) (get_or b k no_values)
get-combined [] [] k h = none-combined
get-combined [] (y ∷ b) k h = absurd (omega arith)
get-combined (x ∷ a) [] k h = absurd (omega arith)
get-combined (x ∷ a) (y ∷ b) zero h = refl
get-combined (x ∷ a) (y ∷ b) (suc k) h = get-combined a b k (omega arith)

slot_in-combined : (p : SlotPart) (a b : List SlotState) → length a ≡ length b → slot_in (combined_slots a b) p ≡ combined_slot (slot_in a p) (slot_in b p)
slot_in-combined part.Empty a b h = none-combined
slot_in-combined (part.Count lane) a b h = ap without_integers (get-combined a b lane h) ∙ without-combined (get_or a lane no_values) (get_or b lane no_values)
slot_in-combined (part.Whole lane) a b h = get-combined a b lane h

slots_in-combined : (parts : List SlotPart) (a b : List SlotState) → length a ≡ length b → slots_in parts (combined_slots a b) ≡ combined_slots (slots_in parts a) (slots_in parts b)
slots_in-combined [] a b h = refl
slots_in-combined (p ∷ parts) a b h = λ i. slot_in-combined p a b h i ∷ slots_in-combined parts a b h i

pub length-combined : (a b : List SlotState) → length a ≡ length b → length (combined_slots a b) ≡ length a
length-combined [] b h = refl
length-combined (x ∷ a) [] h = absurd (omega arith)
length-combined (x ∷ a) (y ∷ b) h = ap suc (length-combined a b (omega arith))

-- all slots fit the wide layout
abbrev all_parts : List SlotPart
all_parts = part.Whole 0 ∷ part.Whole 1 ∷ part.Whole 2 ∷ part.Whole 3 ∷ part.Whole 4 ∷ part.Whole 5 ∷ part.Whole 6 ∷ part.Whole 7 ∷ []

abbrev all_kept : List ℕ
all_kept = 0 ∷ 1 ∷ 2 ∷ 3 ∷ 4 ∷ 5 ∷ 6 ∷ 7 ∷ []

eight_slots : (slots : List SlotState) → length slots ≡ 8 → slots_in all_parts (map (λ (at : ℕ). get_or slots at no_values) all_kept) ≡ slots
eight_slots [] h = absurd (omega arith)
eight_slots (a ∷ []) h = absurd (omega arith)
eight_slots (a ∷ b ∷ []) h = absurd (omega arith)
eight_slots (a ∷ b ∷ c ∷ []) h = absurd (omega arith)
eight_slots (a ∷ b ∷ c ∷ d ∷ []) h = absurd (omega arith)
eight_slots (a ∷ b ∷ c ∷ d ∷ e ∷ []) h = absurd (omega arith)
eight_slots (a ∷ b ∷ c ∷ d ∷ e ∷ f ∷ []) h = absurd (omega arith)
eight_slots (a ∷ b ∷ c ∷ d ∷ e ∷ f ∷ g ∷ []) h = absurd (omega arith)
eight_slots (a ∷ b ∷ c ∷ d ∷ e ∷ f ∷ g ∷ k ∷ []) h = refl
eight_slots (a ∷ b ∷ c ∷ d ∷ e ∷ f ∷ g ∷ k ∷ l ∷ slots) h = absurd (omega arith)

pub fits_wide : (layout : Layout) (slots : List SlotState) → IsWide layout → length slots ≡ 8 → Fits layout slots
fits_wide layout slots wide h =
    (λ i. slots_in (wide.parts i) (map (λ (at : ℕ). get_or slots at no_values) (take (wide.width i) (wide.kept i)))) ∙ eight_slots slots h

-- one element more of a list that is written from its front
pub map_step : {X Y : Type 0} (f : X → Y) (xs : List X) (ys : List Y) (i : ℕ) (d : X) (y : Y) → i < length xs → i < length ys → take i ys ≡ map f (take i xs)
    → y ≡ f (get_or xs i d) → take (i + 1) (set ys i y) ≡ map f (take (i + 1) xs)
map_step f xs ys i d y h k is e = take_more_set ys i y k ∙ (λ j. is j ++ e j ∷ []) ∙ sym (map_more f xs i d h)

-- one slot more that is as it has to be
pub told_more : (parts : List SlotPart) (lanes slots : List SlotState) (i : ℕ) (d : SlotPart) (e : SlotState) → i < length parts → i < length slots → slots_in (take i parts) lanes ≡ take i slots
    → slot_in lanes (get_or parts i d) ≡ get_or slots i e → slots_in (take (i + 1) parts) lanes ≡ take (i + 1) slots
told_more parts lanes slots i d e h k is one = map_more (slot_in lanes) parts i d h ∙ (λ j. is j ++ one j ∷ []) ∙ sym (take_more slots i e k)

-- a slot that isn't as it has to be
pub not_told : (parts : List SlotPart) (lanes slots : List SlotState) (i : ℕ) (d : SlotPart) (e : SlotState) → i < length parts → slots_in parts lanes ≡ slots → (slot_in lanes (get_or parts i d) ≡ get_or slots i e → ⊥) → ⊥
not_told parts lanes slots i d e h is differs = differs (sym (get_or-map (slot_in lanes) parts i d e h) ∙ ap (λ (ss : List SlotState). get_or ss i e) is)

-- a lane of some slots
pub get-lanes_of : (layout : Layout) (slots : List SlotState) (lane d : ℕ) → lane < layout.width → lane < length layout.kept → get_or (lanes_of layout slots) lane no_values ≡ get_or slots (get_or layout.kept lane d) no_values
get-lanes_of layout slots lane d h k =
    get_or-map (λ (at : ℕ). get_or slots at no_values) (take layout.width layout.kept) lane d no_values (omega (arith, length-take layout.width layout.kept))
    ∙ ap (λ (at : ℕ). get_or slots at no_values) (get_or-take layout.width layout.kept lane d h)

-- places among the lanes
next_row : (at w : ℕ) → w + at * w ≡ suc at * w
next_row at w = omega arith

pub at_most : (a b w : ℕ) → a ≤ b → a * w ≤ b * w
at_most zero b w h = omega arith
at_most (suc a) zero w h = absurd (omega arith)
at_most (suc a) (suc b) w h = omega (arith, next_row a w, next_row b w, at_most a b w (omega arith))

pub rows_fit : (at n w : ℕ) → at < n → at * w + w ≤ n * w
rows_fit at n w h = omega (arith, next_row at w, at_most (suc at) n w (omega arith))

pub length-lanes_of : (layout : Layout) (slots : List SlotState) → length layout.kept ≡ 8 → layout.width ≤ 8 → length (lanes_of layout slots) ≡ layout.width
length-lanes_of layout slots h narrow = length-map (take layout.width layout.kept) (λ at. get_or slots at no_values) ∙ length-take-le layout.width layout.kept (omega arith)

module _ (layout : Layout) where
  abbrev w : ℕ
  w = layout.width

  abbrev state : ℕ → List SlotState → AggState
  state rows lanes = record { rows = rows; slots = slots_in layout.parts lanes }

  pub length-states_in : (rows : List ℕ) (lanes : List SlotState) → length (states_in layout rows lanes) ≡ length rows
  length-states_in [] lanes = refl
  length-states_in (r ∷ rows) lanes = ap suc (length-states_in rows (drop w lanes))

  -- each state has as many slots as the layout has parts
  pub whole-states_in : (rows : List ℕ) (lanes : List SlotState) → length layout.parts ≡ 8 → (at : ℕ) (d : AggState) → at < length (states_in layout rows lanes) → length (get_or (states_in layout rows lanes) at d).slots ≡ 8
  whole-states_in [] lanes parts at d h = absurd (omega arith)
  whole-states_in (r ∷ rows) lanes parts zero d h = length-map layout.parts (slot_in (take w lanes)) ∙ parts
  whole-states_in (r ∷ rows) lanes parts (suc at) d h = whole-states_in rows (drop w lanes) parts at d (omega arith)

  -- the state at a place
  pub get-states_in : (rows : List ℕ) (lanes : List SlotState) (at : ℕ) → at < length rows → slice_get (states_in layout rows lanes) at ≡ Some (state (get_or rows at 0) (take w (drop (at * w) lanes)))
  get-states_in [] lanes at h = absurd (omega arith)
  get-states_in (r ∷ rows) lanes zero h =
      let none : 0 ≡ 0 * w = omega arith in
      ap (λ (n : ℕ). Some (state r (take w (drop n lanes)))) none
  get-states_in (r ∷ rows) lanes (suc at) h =
      get-states_in rows (drop w lanes) at (omega arith)
      ∙ ap (λ (ls : List SlotState). Some (state (get_or rows at 0) (take w ls))) (drop-drop (at * w) w lanes ∙ ap (λ (n : ℕ). drop n lanes) (next_row at w))

  -- a state comes
  pub push-states_in : (rows : List ℕ) (lanes more : List SlotState) (r : ℕ) → length lanes ≡ length rows * w → states_in layout (rows ++ r ∷ []) (lanes ++ more) ≡ states_in layout rows lanes ++ state r (take w more) ∷ []
  push-states_in [] [] more r h = refl
  push-states_in [] (l ∷ lanes) more r h = absurd (omega arith)
  push-states_in (q ∷ rows) lanes more r h =
      let long : w ≤ length lanes = omega (arith, next_row (length rows) w) in
      let rest : length (drop w lanes) ≡ length rows * w = omega (arith, next_row (length rows) w, length-drop w lanes) in
      let tail : states_in layout (rows ++ r ∷ []) (drop w (lanes ++ more)) ≡ states_in layout rows (drop w lanes) ++ state r (take w more) ∷ [] =
      ap (states_in layout (rows ++ r ∷ [])) (drop-append-le w lanes more long) ∙ push-states_in rows (drop w lanes) more r rest in
      λ i. state q (take-append-le w lanes more long i) ∷ tail i

  -- the last states go
  pub take-states_in : (rows : List ℕ) (lanes : List SlotState) (n : ℕ) → n ≤ length rows → states_in layout (take n rows) (take (n * w) lanes) ≡ take n (states_in layout rows lanes)
  take-states_in rows lanes zero h = refl
  take-states_in [] lanes (suc n) h = absurd (omega arith)
  take-states_in (r ∷ rows) lanes (suc n) h =
      let first : take w (take (suc n * w) lanes) ≡ take w lanes = take-take w (suc n * w) lanes (omega (arith, next_row n w)) in
      let rest : drop w (take (suc n * w) lanes) ≡ take (n * w) (drop w lanes) = ap (λ (m : ℕ). drop w (take m lanes)) (sym (next_row n w)) ∙ drop-take w (n * w) lanes in
      let tail : states_in layout (take n rows) (drop w (take (suc n * w) lanes)) ≡ take n (states_in layout rows (drop w lanes)) = ap (states_in layout (take n rows)) rest ∙ take-states_in rows (drop w lanes) n (omega arith) in
      λ i. state r (first i) ∷ tail i

  -- a state changes
  pub set-states_in : (rows : List ℕ) (lanes new : List SlotState) (r at : ℕ) → length new ≡ w → at < length rows → length lanes ≡ length rows * w
      → states_in layout (set rows at r) (take (at * w) lanes ++ (new ++ drop (at * w + w) lanes)) ≡ set (states_in layout rows lanes) at (state r new)
  set-states_in [] lanes new r at long h whole = absurd (omega arith)
  set-states_in (q ∷ rows) lanes new r zero long h whole =
      let none : 0 * w ≡ 0 = omega arith in
      let begin : take (0 * w) lanes ≡ [] = ap (λ (n : ℕ). take n lanes) none in
      let rest : drop (0 * w + w) lanes ≡ drop w lanes = ap (λ (n : ℕ). drop n lanes) (omega (arith, none)) in
      let all : take (0 * w) lanes ++ (new ++ drop (0 * w + w) lanes) ≡ new ++ drop w lanes = (λ i. begin i ++ (new ++ rest i)) in
      let first : take w (new ++ drop w lanes) ≡ new = ap (λ (n : ℕ). take n (new ++ drop w lanes)) (sym long) ∙ take-append_seam new (drop w lanes) in
      let last : drop w (new ++ drop w lanes) ≡ drop w lanes = ap (λ (n : ℕ). drop n (new ++ drop w lanes)) (sym long) ∙ drop-append_seam new (drop w lanes) in
      ap (λ (ls : List SlotState). state r (take w ls) ∷ states_in layout rows (drop w ls)) all
      ∙ (λ i. state r (first i) ∷ states_in layout rows (last i))
  set-states_in (q ∷ rows) lanes new r (suc at) long h whole =
      let wide : w ≤ length lanes = omega (arith, next_row (length rows) w) in
      let rest : length (drop w lanes) ≡ length rows * w = omega (arith, next_row (length rows) w, length-drop w lanes) in
      let before : take (suc at * w) lanes ≡ take w lanes ++ take (at * w) (drop w lanes) = ap (λ (n : ℕ). take n lanes) (sym (next_row at w)) ∙ take-add w (at * w) lanes in
      let behind : drop (suc at * w + w) lanes ≡ drop (at * w + w) (drop w lanes) = ap (λ (n : ℕ). drop n lanes) (omega (arith, next_row at w)) ∙ sym (drop-drop (at * w + w) w lanes) in
      let changed = take (at * w) (drop w lanes) ++ (new ++ drop (at * w + w) (drop w lanes)) in
      let all : take (suc at * w) lanes ++ (new ++ drop (suc at * w + w) lanes) ≡ take w lanes ++ changed =
      (λ i. before i ++ (new ++ behind i)) ∙ append_assoc (take w lanes) (take (at * w) (drop w lanes)) (new ++ drop (at * w + w) (drop w lanes)) in
      let size : length (take w lanes) ≡ w = length-take-le w lanes wide in
      let first : take w (take w lanes ++ changed) ≡ take w lanes = ap (λ (n : ℕ). take n (take w lanes ++ changed)) (sym size) ∙ take-append_seam (take w lanes) changed in
      let last : drop w (take w lanes ++ changed) ≡ changed = ap (λ (n : ℕ). drop n (take w lanes ++ changed)) (sym size) ∙ drop-append_seam (take w lanes) changed in
      let tail : states_in layout (set rows at r) (drop w (take w lanes ++ changed)) ≡ set (states_in layout rows (drop w lanes)) at (state r new) =
      ap (states_in layout (set rows at r)) last ∙ set-states_in rows (drop w lanes) new r at long (omega arith) rest in
      ap (λ (ls : List SlotState). state q (take w ls) ∷ states_in layout (set rows at r) (drop w ls)) all
      ∙ (λ i. state q (first i) ∷ tail i)

  -- with the new lanes in their place
  pub with-states_in : (rows : List ℕ) (lanes new : List SlotState) (r at first : ℕ) → first ≡ at * w → length new ≡ w → at < length rows → length lanes ≡ length rows * w
      → states_in layout (set rows at r) (with_lanes lanes first new) ≡ set (states_in layout rows lanes) at (state r new)
  with-states_in rows lanes new r at first is long h whole =
      ap (λ (n : ℕ). states_in layout (set rows at r) (take n lanes ++ (new ++ drop (n + length new) lanes))) is
      ∙ ap (λ (n : ℕ). states_in layout (set rows at r) (take (at * w) lanes ++ (new ++ drop (at * w + n) lanes))) long
      ∙ set-states_in rows lanes new r at long h whole

  -- a state is added to one, lane by lane
  pub combine-states_in : (rows : List ℕ) (lanes theirs : List SlotState) (r at first n : ℕ) (other : AggState) → first ≡ at * w → n ≡ w → theirs ≡ lanes_of layout other.slots → r ≡ (get_or rows at 0 + other.rows) % 2 ^ 64
      → Fits layout other.slots → length theirs ≡ w → at < length rows → length lanes ≡ length rows * w
      → states_in layout (set rows at r) (with_lanes lanes first (combined_slots (take n (drop first lanes)) theirs)) ≡ set (states_in layout rows lanes) at (combined (get_or (states_in layout rows lanes) at empty_state) other)
  combine-states_in rows lanes theirs r at first n other is wide are sum fits long h whole =
      let mine = take n (drop first lanes) in
      let there : mine ≡ take w (drop (at * w) lanes) = (λ i. take (wide i) (drop (is i) lanes)) in
      let size : length mine ≡ w = ap (length {A = SlotState}) there ∙ length-take-le w (drop (at * w) lanes) (omega (arith, rows_fit at (length rows) w h, length-drop (at * w) lanes)) in
      let same : length mine ≡ length theirs = size ∙ sym long in
      let was : get_or (states_in layout rows lanes) at empty_state ≡ state (get_or rows at 0) mine =
      get_or_from_slice_get (states_in layout rows lanes) at (state (get_or rows at 0) (take w (drop (at * w) lanes))) empty_state (get-states_in rows lanes at h) ∙ ap (state (get_or rows at 0)) (sym there) in
      let told : slots_in layout.parts theirs ≡ other.slots = ap (slots_in layout.parts) are ∙ fits in
      let slots : slots_in layout.parts (combined_slots mine theirs) ≡ combined_slots (slots_in layout.parts mine) other.slots = slots_in-combined layout.parts mine theirs same ∙ ap (combined_slots (slots_in layout.parts mine)) told in
      with-states_in rows lanes (combined_slots mine theirs) r at first is (length-combined mine theirs same ∙ size) h whole
      ∙ (λ i. set (states_in layout rows lanes) at (record { rows = sum i; slots = slots i }))
      ∙ ap (λ (s : AggState). set (states_in layout rows lanes) at (combined s other)) (sym was)

  -- a place is one of the rows, and its lanes are there
  pub place_within : (rows : List ℕ) (lanes : List SlotState) (states : List AggState) (at : ℕ) → states_in layout rows lanes ≡ states → at < length states → at < length rows
  place_within rows lanes states at is h = omega (arith, ap (length {A = AggState}) is, length-states_in rows lanes)

  pub lanes_within : (rows : List ℕ) (lanes : List SlotState) (at width : ℕ) → width ≡ w → at < length rows → length lanes ≡ length rows * w → at * width + width ≤ length lanes
  lanes_within rows lanes at width is h whole = omega (arith, rows_fit at (length rows) width h, whole ∙ ap (λ (n : ℕ). length rows * n) (sym is))

-- states that are laid anew, one more
pub relaid_more : (old new : Layout) (rows : List ℕ) (lanes so_far now more slots : List SlotState) (at width : ℕ) → at < length rows → width ≡ old.width
    → slots ≡ slots_in old.parts (take width (drop (at * width) lanes)) → Fits new slots → more ≡ lanes_of new slots → length more ≡ new.width → length so_far ≡ at * new.width
    → states_in new (take at rows) so_far ≡ take at (states_in old rows lanes) → now ≡ so_far ++ more
    → (length now ≡ (at + 1) * new.width) × (states_in new (take (at + 1) rows) now ≡ take (at + 1) (states_in old rows lanes))
relaid_more old new rows lanes so_far now more slots at width h wide are fits told long whole same is =
    let r = get_or rows at 0 in
    let next : AggState = record { rows = r; slots = slots } in
    let here : slots ≡ slots_in old.parts (take old.width (drop (at * old.width) lanes)) = are ∙ (λ i. slots_in old.parts (take (wide i) (drop (at * wide i) lanes))) in
    let there : get_or (states_in old rows lanes) at next ≡ next =
    get_or_from_slice_get (states_in old rows lanes) at next next (get-states_in old rows lanes at h ∙ ap (λ (ss : List SlotState). Some (record { rows = r; slots = ss })) (sym here)) in
    let begun : length so_far ≡ length (take at rows) * new.width = whole ∙ ap (λ (n : ℕ). n * new.width) (sym (length-take-le at rows (omega arith))) in
    let fit : slots_in new.parts (take new.width more) ≡ slots = ap (slots_in new.parts) (take_all new.width more (omega arith) ∙ told) ∙ fits in (
      omega (arith, next_row at new.width, ap (length {A = SlotState}) is, length-append so_far more, ap (λ (n : ℕ). n * new.width) (add-one at)),
      (λ i. states_in new (take_more rows at 0 h i) (is i))
          ∙ push-states_in new (take at rows) so_far more r begun
          ∙ (λ i. same i ++ record { rows = r; slots = fit i } ∷ [])
          ∙ ap (λ (s : AggState). take at (states_in old rows lanes) ++ s ∷ []) (sym there)
          ∙ sym (take_more (states_in old rows lanes) at next (omega (arith, length-states_in old rows lanes))),
    )

-- the states of a list are still its states where they were laid anew
pub laid_anew : (old new : Layout) (rows same_rows : List ℕ) (lanes more : List SlotState) (states : List AggState) → same_rows ≡ rows → states_in new same_rows more ≡ states_in old same_rows lanes → states_in old rows lanes ≡ states
    → states_in new rows more ≡ states
laid_anew old new rows same_rows lanes more states is same are =
    ap (λ (rs : List ℕ). states_in new rs more) (sym is) ∙ same ∙ ap (λ (rs : List ℕ). states_in old rs lanes) is ∙ are

pub whole_anew : (new : Layout) (rows same_rows : List ℕ) (lanes : List SlotState) → same_rows ≡ rows → length lanes ≡ length same_rows * new.width → length lanes ≡ length rows * new.width
whole_anew new rows same_rows lanes is whole = whole ∙ ap (λ (rs : List ℕ). length rs * new.width) is

-- states that were laid anew, and a place of theirs
pub record Refitted (layout : Layout) (rows : List ℕ) (lanes : List SlotState) (states : List AggState) (at width : ℕ) : Type 0 where
  pub view : states_in layout rows lanes ≡ states
  pub whole : length lanes ≡ length rows * layout.width
  pub here : at < length rows
  pub there : at * width + width ≤ length lanes
  pub start : at * width ≡ at * layout.width

pub refitted : (old new : Layout) (rows same_rows : List ℕ) (lanes more : List SlotState) (states : List AggState) (at width : ℕ) → same_rows ≡ rows → states_in new same_rows more ≡ states_in old same_rows lanes → states_in old rows lanes ≡ states
    → length more ≡ length same_rows * new.width → at < length states → width ≡ new.width → Refitted new rows more states at width
refitted old new rows same_rows lanes more states at width is same are all low wide =
    let view = laid_anew old new rows same_rows lanes more states is same are in
    let whole = whole_anew new rows same_rows more is all in
    let here = place_within new rows more states at view low in
    record { view = view; whole = whole; here = here; there = lanes_within new rows more at width wide here whole; start = ap (λ (n : ℕ). at * n) wide }

-- the lanes of slots are the first of a longer list
pub record AreFirst (layout : Layout) (slots all : List SlotState) (width : ℕ) : Type 0 where
  pub are : take width all ≡ lanes_of layout slots
  pub long : length (take width all) ≡ layout.width

pub are_first : (layout : Layout) (slots all : List SlotState) (width : ℕ) → width ≡ layout.width → take layout.width all ≡ lanes_of layout slots → length (lanes_of layout slots) ≡ layout.width → AreFirst layout slots all width
are_first layout slots all width is lanes wide =
    let same : take width all ≡ lanes_of layout slots = ap (λ (n : ℕ). take n all) is ∙ lanes in
    record { are = same; long = ap (length {A = SlotState}) same ∙ wide }
