-- A group with more rows than a group may have, in the maps of ranges.
use Rattle.std.proofs.Common.{◌≡◌, ◌<◌, ◌≤◌, ◌^◌, ◌++◌, ◌∙◌, ℕ, List, [], ◌∷◌, Option, ap, append_assoc, arith, get_or, length, refl, slice_index_or, sym}
use Rattle.std.proofs.lemmas.List.{get_or-map}
use Rattle.std.proofs.lemmas.List.Sorted.{All-permutation}
use Rattle.std.specs.FinMap as finite
use Rattle.std.specs.List.Sorted.{IsPermutation}
use Rattle.par_model.specs.declared.state.AggState.{AggState}
use Rattle.partial_agg.specs.Groups.{GroupsByKey}
use Rattle.partial_agg.specs.Listed.{listed, state_at}
use Rattle.partial_agg.specs.State.{empty_state}
use Rattle.partial_agg.specs.declared.groups.Group.{Group as MapGroup}
use Rattle.state_body.specs.Body.{body_bytes}
use Rattle.state_front.specs.Front.{front_bytes}
use Rattle.state_head.specs.Head.{Subject}
use Rattle.state_head.specs.Words.{Keys}
use Rattle.state_load.specs.Faults.{CannotGoOn}
use Rattle.state_load.specs.Loading.{IsPart, stretches_of, sum_of}
use Rattle.state_load.specs.declared.loading.LoadCause.TheVariants as cause
use Rattle.state_order.proofs.Kept.{each_within}
use Rattle.state_ranges.specs.Parts.{AreRangesOf, ends_of}
use Rattle.state_ranges.specs.declared.maps.RangeMap.{RangeMap}
use Rattle.state_ranges.specs.declared.sums.RangeSums.{RangeSums}
use Rattle.state_source.specs.Adding.{IsFaultOf}
use Rattle.state_source.specs.Beside.{HasManyRows, IsAddedTo}
use Rattle.state_source.specs.Reading.{OfLeft}
use Rattle.state_source.specs.declared.adding.SourceFault.TheVariants as fault
use Rattle.state_source.specs.declared.beside.Seen.{Seen}
use Rattle.state_source.proofs.Gone.{IsGone, bytes_push, grown}
use Rattle.state_source.proofs.Rests.{of_any, of_more}
use Rattle.state_whole.specs.Adding.{sum_with}
use Rattle.state_whole.specs.Files.{StateFile, file_bytes, tuples_in}
use Rattle.state_whole.specs.Sums.{AreBounded}
use Rattle.state_whole.specs.declared.adding.Shape.{Shape}
use Rattle.state_whole.specs.declared.files.FileFault.TheVariants as file_fault

-- ---- in one map

no_group : MapGroup
no_group = record { key = []; state = empty_state }

-- a group at a place of the groups where they lie
pub not_bounded : (m : GroupsByKey) (groups : List MapGroup) (at rows : ℕ) → IsPermutation (listed m) groups → at < length groups → rows ≡ (state_at groups at).rows → 2 ^ 50 < rows → AreBounded m → ⊥
not_bounded m groups at rows same lt is more all =
    let few = All-permutation (λ (g : MapGroup). g.state.rows ≤ 2 ^ 50) (listed m) groups same all at no_group lt in
    let here : (get_or groups at no_group).state.rows ≡ rows = sym (is ∙ ap (λ (s : AggState). s.rows) (get_or-map (λ (g : MapGroup). g.state) groups at no_group empty_state lt)) in
    omega (arith, more, few, here)

-- ---- in the map of a range

-- so there is one among all
pub all_many : (columns : ℕ) (m : GroupsByKey) (ranges : List RangeMap) → AreRangesOf columns m ranges → HasManyRows ranges → AreBounded m → ⊥
all_many columns m ranges are many all =
    let r = slice_index_or ranges many.k many.or in
    many.many (each_within (λ (g : MapGroup). g.state.rows ≤ 2 ^ 50) columns (ends_of r) m r.map (are many.k many.or many.before).are_within all)

-- ---- of the files so far

-- the bytes of a file go on with none that can be added
cannot_go_on : (shape : Shape) (subject : Subject) (keys : Keys) (m : GroupsByKey) (f : StateFile) (rest : List ℕ) → IsPart shape subject keys f → (AreBounded (sum_with shape m (tuples_in f)) → ⊥)
    → CannotGoOn shape m (file_bytes shape.kinds.now f ++ rest) file_fault.Rows
unfolding file_bytes
cannot_go_on shape subject keys m f rest part many =
    let front = front_bytes f.preface in
    let body = body_bytes shape.kinds.now (length front) f.blocks in
    record {
      front = f.preface;
      is_front = part.is_file.is_front;
      rest = body ++ rest;
      is = append_assoc front body rest;
      none = (record { blocks = f.blocks; rest = rest; is_body = part.is_file.are_groups.is_body; is = refl }, many);
    }

-- the last one of them makes a group too large
pub rows_wrong : (shape : Shape) (subject : Subject) (keys : Keys) (was left : Option (List ℕ)) (first held : List ℕ) (sums next : RangeSums) (seen : Seen) (count : ℕ) → IsGone shape subject keys was left first held sums seen count → IsAddedTo shape seen sums next
    → HasManyRows next.ranges.items → OfLeft was (λ rest. IsFaultOf shape subject keys finite.empty (first ++ rest) (fault.Load (record { file = count; why = cause.File file_fault.Rows })))
rows_wrong shape subject keys was left first held sums next seen count is added many =
    let many_files = is.many in
    let m = sum_of shape finite.empty is.files in
    let after = sum_with shape m (tuples_in is.f) in
    let sum = added.sum subject keys m (stretches_of is.files) is.f is.sum_is is.seen_of in
    of_more was left is.more (λ rest. IsFaultOf shape subject keys finite.empty (first ++ rest) (fault.Load (record { file = count; why = cause.File file_fault.Rows }))) is.reads
    (of_any left (λ more. IsFaultOf shape subject keys finite.empty (first ++ (is.more ++ more)) (fault.Load (record { file = count; why = cause.File file_fault.Rows })))
    (λ more. record {
      files = is.files;
      are = is.are;
      number = omega (arith, many_files);
      rest = file_bytes shape.kinds.now is.f ++ (held ++ more);
      is = grown shape (is.files ++ is.f ∷ []) first is.more held more (held ++ more) is.is refl ∙ bytes_push shape is.files is.f (held ++ more);
      none = cannot_go_on shape subject keys m is.f (held ++ more) is.seen_of.is_part (all_many shape.columns after next.ranges.items sum.are_ranges many);
    }))
