-- What a loaded input comes to: one file, or the text of a table, or a refused row.
use Rattle.std.proofs.Common.{◌≡◌, ◌∙◌, ℕ, List, All, ap, length, subst, sym}
use Rattle.std.specs.Global.{Vec}
use Rattle.par_model.specs.Named.{bound_plan}
use Rattle.par_model.specs.Plan.{Plan}
use Rattle.partial_agg.specs.Groups.{GroupsByKey}
use Rattle.partial_agg.specs.Listed.{listed}
use Rattle.partial_agg.specs.declared.groups.Group.{Group as MapGroup}
use Rattle.plan_spec.specs.Query.{Query}
use Rattle.result_text.specs.Pieces.{joined}
use Rattle.result_text.specs.Printable.{IsBoundFrom, IsKeyOf}
use Rattle.result_text.specs.Text.{IsTextOf}
use Rattle.state_combine.specs.Combined.{IsCombined, IsNotCombined}
use Rattle.state_combine.specs.declared.combining.CombineFault.{CombineFault}
use Rattle.state_finalize.specs.Finished.{IsFinished, IsNotFinished}
use Rattle.state_finalize.specs.declared.finishing.FinishFault.{FinishFault}
use Rattle.state_finalize.specs.declared.finishing.Finished.TheVariants.{Refused, Table}
use Rattle.state_head.specs.Cover.{IsStretch}
use Rattle.state_head.specs.Head.{Subject, subject_of}
use Rattle.state_head.specs.Words.{Keys, keys_of}
use Rattle.state_head.specs.declared.cover.Stretch.{Stretch}
use Rattle.state_load.specs.Loading.{stretches_of}
use Rattle.state_plan.specs.FilePlans.{header_of}
use Rattle.state_total.specs.Total.{IsWholeCover}
use Rattle.state_total.specs.declared.total.FirstRefused.{FirstRefused}
use Rattle.state_whole.specs.Adding.{IsShapeOf}
use Rattle.state_whole.specs.Files.{StateFile, file_bytes}
use Rattle.state_whole.specs.declared.adding.Shape.{Shape}
use Rattle.state_order.proofs.Kept.{all_within, each_within}
use Rattle.state_order.specs.Ranges.{AreWithin}
use Rattle.state_query.specs.Inputs.{AreOneFile, HasRefusedRow, HasText, IsInput, IsLoaded, IsTableOf, IsWhole, all_keys, bound_of, groups_in}
use Rattle.state_query.specs.declared.input.Loaded.{Loaded}
use Rattle.state_query.proofs.Keys.{keys_of_sum, stretches_of_sum}
use Rattle.state_query.proofs.Sums.{groups_by, input_by, with_shape}

-- the plan over the columns of the header
pub bound_is : {within : Keys} (bytes : List ℕ) (l : Loaded) (is : IsLoaded within bytes l) → l.plan.bound ≡ bound_of is.input
bound_is bytes l is = is.is_plan.bound ∙ ap (λ (q : Query). bound_plan (header_of q.reading is.input.subject) q.plan) is.query_is

pub bound_from : {within : Keys} (bytes : List ℕ) (l : Loaded) → IsLoaded within bytes l → IsBoundFrom l.plan.plan.plan l.plan.bound
bound_from bytes l is = record { header = header_of l.plan.plan.reading is.input.subject; is = is.is_plan.bound }

-- without a range all groups are loaded
pub map_is : (bytes : List ℕ) (l : Loaded) (is : IsLoaded all_keys bytes l) → l.sum.map ≡ groups_in is.input
map_is bytes l is =
    let i = is.input in
    all_within l.sum.kept.columns (groups_in i) l.sum.map (subst (λ (k : Keys). AreWithin l.sum.kept.columns k (groups_in i) l.sum.map) is.within_is is.sum_is.are_within)

-- and in a range those of it
pub loaded_within : {within : Keys} (bytes : List ℕ) (l : Loaded) (is : IsLoaded within bytes l) → AreWithin (length l.plan.bound.groups) (keys_of l.sum.kept.range) (groups_in is.input) l.sum.map
loaded_within bytes l is =
    let many : l.sum.kept.columns ≡ length l.plan.bound.groups = is.columns_are ∙ ap (λ (p : Plan). length p.groups) (sym (bound_is bytes l is)) in
    subst (λ (n : ℕ). AreWithin n (keys_of l.sum.kept.range) (groups_in is.input) l.sum.map) many is.sum_is.are_within

-- the keys and stretches of what is loaded
keys_loaded : {within : Keys} (bytes : List ℕ) (l : Loaded) (is : IsLoaded within bytes l) (count : ℕ) → is.input.shape.columns ≡ count → All (λ (g : MapGroup). IsKeyOf count g.key) (listed l.sum.map)
keys_loaded bytes l is count e =
    let i = is.input in
    let keys = keys_of_sum i.shape i.subject i.keys i.files is.is_input.are in
    let counted = subst (λ (n : ℕ). All (λ (g : MapGroup). IsKeyOf n g.key) (listed (groups_in i))) e keys in
    each_within (λ (g : MapGroup). IsKeyOf count g.key) l.sum.kept.columns (keys_of l.sum.kept.range) (groups_in i) l.sum.map is.sum_is.are_within counted

pub keys_by_shape : {within : Keys} (bytes : List ℕ) (l : Loaded) (shape : Shape) → IsLoaded within bytes l → IsShapeOf l.plan.bound shape → All (λ (g : MapGroup). IsKeyOf shape.columns g.key) (listed l.sum.map)
keys_by_shape bytes l shape is of =
    keys_loaded bytes l is shape.columns (is.is_input.is_shape.columns ∙ ap (λ (p : Plan). length p.groups) (sym (bound_is bytes l is)) ∙ sym of.columns)

pub keys_by_plan : {within : Keys} (bytes : List ℕ) (l : Loaded) → IsLoaded within bytes l → All (λ (g : MapGroup). IsKeyOf (length l.plan.bound.groups) g.key) (listed l.sum.map)
keys_by_plan bytes l is = keys_loaded bytes l is (length l.plan.bound.groups) (is.is_input.is_shape.columns ∙ ap (λ (p : Plan). length p.groups) (sym (bound_is bytes l is)))

pub stretches_loaded : {within : Keys} (bytes : List ℕ) (l : Loaded) → IsLoaded within bytes l → All (IsStretch l.whole.sources) l.sum.cover.items
stretches_loaded bytes l is =
    let i = is.input in
    let each = stretches_of_sum i.shape i.subject i.keys i.files is.is_input.are in
    let of = subst (λ (s : Subject). All (IsStretch s.sources) (stretches_of i.files)) (sym is.subject_is) each in
    subst (All (IsStretch l.whole.sources)) (sym is.sum_is.cover_is) of

-- ---- one file

-- the plan over the columns of the header has this shape
bound_shape : {within : Keys} (bytes : List ℕ) (l : Loaded) (shape : Shape) (is : IsLoaded within bytes l) → IsShapeOf l.plan.bound shape → IsShapeOf (bound_of is.input) shape
bound_shape bytes l shape is of = subst (λ (p : Plan). IsShapeOf p shape) (bound_is bytes l is) of

pub input_by_shape : {within : Keys} (bytes : List ℕ) (l : Loaded) (shape : Shape) (is : IsLoaded within bytes l) → IsShapeOf l.plan.bound shape → IsInput bytes (with_shape is.input shape)
input_by_shape bytes l shape is of = input_by bytes is.input shape (bound_shape bytes l shape is of) is.is_input

-- what holds of what is loaded holds of the input
pub by_input : (bytes : List ℕ) (l : Loaded) (shape : Shape) (is : IsLoaded all_keys bytes l) → IsShapeOf l.plan.bound shape → (P : Subject → Keys → GroupsByKey → List Stretch → Type 0) → P (subject_of l.whole) (keys_of l.range) l.sum.map l.sum.cover.items
    → P is.input.subject is.input.keys (groups_in (with_shape is.input shape)) (stretches_of is.input.files)
by_input bytes l shape is of P p =
    let i = is.input in
    let by_subject = subst (λ (s : Subject). P s (keys_of l.range) l.sum.map l.sum.cover.items) is.subject_is p in
    let by_keys = subst (λ (k : Keys). P i.subject k l.sum.map l.sum.cover.items) is.keys_are by_subject in
    let by_map = subst (λ (m : GroupsByKey). P i.subject i.keys m l.sum.cover.items) (map_is bytes l is ∙ groups_by bytes i shape (bound_shape bytes l shape is of) is.is_input) by_keys in
    subst (λ (ss : List Stretch). P i.subject i.keys (groups_in (with_shape i shape)) ss) is.sum_is.cover_is by_map

pub one_file : (bytes : List ℕ) (l : Loaded) (shape : Shape) (f : StateFile) (file : List ℕ) → IsLoaded all_keys bytes l → IsShapeOf l.plan.bound shape → IsCombined shape (subject_of l.whole) (keys_of l.range) l.sum.map l.sum.cover.items f
    → file ≡ file_bytes shape.kinds.now f → AreOneFile bytes file
one_file bytes l shape f file is of combined written = record {
  input = with_shape is.input shape;
  is_input = input_by_shape bytes l shape is of;
  f = f;
  one = by_input bytes l shape is of (λ s k m ss. IsCombined shape s k m ss f) combined;
  is = written;
}

pub not_combined : {within : Keys} (bytes : List ℕ) (l : Loaded) (why : CombineFault) (is : IsLoaded within bytes l) → IsNotCombined l.sum.cover.items why → IsNotCombined (stretches_of is.input.files) why
not_combined bytes l why is none = subst (λ (ss : List Stretch). IsNotCombined ss why) is.sum_is.cover_is none

-- ---- a table, or a refused row

pub whole_of : {within : Keys} (bytes : List ℕ) (l : Loaded) (is : IsLoaded within bytes l) (cover : List Stretch) → IsWholeCover l.whole.sources l.sum.cover.items cover → IsWhole is.input cover
whole_of bytes l is cover whole =
    let by_sources = subst (λ (s : Subject). IsWholeCover s.sources l.sum.cover.items cover) is.subject_is whole in
    record { is_cover = subst (λ (ss : List Stretch). IsWholeCover is.input.subject.sources ss cover) is.sum_is.cover_is by_sources }

has_text : (bytes : List ℕ) (l : Loaded) (pieces : Vec (Vec ℕ)) (is : IsLoaded all_keys bytes l) → IsFinished l.plan.plan.plan l.plan.bound l.whole.sources l.sum.map l.sum.cover.items (Table pieces) → HasText is.input (joined pieces.items)
has_text bytes l pieces is done =
    let text = done.comes_to.1 in
    let by_query = subst (λ (q : Query). IsTextOf q.plan l.plan.bound (listed l.sum.map) (joined pieces.items)) is.query_is text in
    let by_bound = subst (λ (p : Plan). IsTextOf is.input.query.plan p (listed l.sum.map) (joined pieces.items)) (bound_is bytes l is) by_query in
    record {
      cover = done.cover;
      is_whole = whole_of bytes l is done.cover done.is_whole;
      counted = done.comes_to.0;
      is = subst (λ (m : GroupsByKey). IsTextOf is.input.query.plan (bound_of is.input) (listed m) (joined pieces.items)) (map_is bytes l is) by_bound;
    }

pub table_of : (bytes : List ℕ) (l : Loaded) (pieces : Vec (Vec ℕ)) (is : IsLoaded all_keys bytes l) → IsFinished l.plan.plan.plan l.plan.bound l.whole.sources l.sum.map l.sum.cover.items (Table pieces) → IsTableOf bytes (joined pieces.items)
table_of bytes l pieces is done = record { input = is.input; is_input = is.is_input; has_text = has_text bytes l pieces is done }

pub not_finished : (bytes : List ℕ) (l : Loaded) (why : FinishFault) (is : IsLoaded all_keys bytes l) → IsNotFinished l.whole.sources l.sum.map l.sum.cover.items why
    → IsNotFinished is.input.subject.sources (groups_in is.input) (stretches_of is.input.files) why
not_finished bytes l why is none =
    let i = is.input in
    let by_sources = subst (λ (s : Subject). IsNotFinished s.sources l.sum.map l.sum.cover.items why) is.subject_is none in
    let by_map = subst (λ (m : GroupsByKey). IsNotFinished i.subject.sources m l.sum.cover.items why) (map_is bytes l is) by_sources in
    subst (λ (ss : List Stretch). IsNotFinished i.subject.sources (groups_in i) ss why) is.sum_is.cover_is by_map

pub has_row : {within : Keys} (bytes : List ℕ) (l : Loaded) (row : FirstRefused) (is : IsLoaded within bytes l) → IsFinished l.plan.plan.plan l.plan.bound l.whole.sources l.sum.map l.sum.cover.items (Refused row) → HasRefusedRow is.input row
has_row bytes l row is done = record { cover = done.cover; is_whole = whole_of bytes l is done.cover done.is_whole; first = done.comes_to }
