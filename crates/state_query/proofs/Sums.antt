-- The same files under another shape of the same plan.
use Rattle.std.proofs.Common.{◌≡◌, ◌∙◌, ℕ, Bool, List, ap, fold, get_or, subst, sym}
use Rattle.std.specs.List.{flat_map}
use Rattle.std.specs.FinMap as map
use Rattle.par_model.specs.declared.plan.Item.{Item}
use Rattle.partial_agg.specs.Groups.{GroupsByKey, added}
use Rattle.state_head.specs.Head.{Subject}
use Rattle.state_head.specs.Words.{Keys}
use Rattle.state_lanes.specs.Lanes.{item_slots}
use Rattle.state_lanes.specs.declared.lanes.Lane.{Lane}
use Rattle.state_load.specs.Loading.{AreParts, files_bytes, sum_of}
use Rattle.state_whole.specs.Adding.{IsShapeOf}
use Rattle.state_whole.specs.Files.{IsStateFile, StateFile, file_bytes, tuples_in}
use Rattle.state_whole.specs.declared.adding.Shape.{Shape}
use Rattle.state_query.specs.Inputs.{Input, IsInput, bound_of, groups_in}

-- the sum of files, by the lanes and aggregates of a shape
abbrev sum_by : List Lane → List Item → GroupsByKey → List StateFile → GroupsByKey
sum_by lanes items m files = fold (λ so_far f. fold (λ n g. added n g.key (record { rows = g.rows; slots = item_slots lanes g.slots items })) so_far (tuples_in f)) m files

same_sum : (a b : Shape) (m : GroupsByKey) (files : List StateFile) → a.lanes.now ≡ b.lanes.now → a.items.now ≡ b.items.now → sum_of a m files ≡ sum_of b m files
same_sum a b m files lanes items =
    ap (λ (ls : List Lane). sum_by ls a.items.now m files) lanes ∙ ap (λ (is : List Item). sum_by b.lanes.now is m files) items

same_files : (a b : Shape) (subject : Subject) (keys : Keys) (files : List StateFile) → a.columns ≡ b.columns → a.kinds.now ≡ b.kinds.now → AreParts a subject keys files → AreParts b subject keys files
same_files a b subject keys files columns kinds all = λ k d lt.
    let p = all k d lt in
    let f = get_or files k d in
    let by_columns = subst (λ (n : ℕ). IsStateFile n a.kinds.now f) columns p.is_file in
    record { is_file = subst (λ (ks : List Bool). IsStateFile b.columns ks f) kinds by_columns; is_alike = p.is_alike }

same_bytes : (a b : Shape) (files : List StateFile) → a.kinds.now ≡ b.kinds.now → files_bytes a files ≡ files_bytes b files
same_bytes a b files kinds = ap (λ (ks : List Bool). flat_map (file_bytes ks) files) kinds

abbrev pub with_shape : Input → Shape → Input
with_shape i shape = record { subject = i.subject; keys = i.keys; query = i.query; shape = shape; files = i.files }

pub input_by : (bytes : List ℕ) (i : Input) (shape : Shape) → IsShapeOf (bound_of i) shape → IsInput bytes i → IsInput bytes (with_shape i shape)
input_by bytes i shape of is =
    let a = is.is_shape in
    record {
      some = is.some;
      ask_for = is.ask_for;
      one = is.one;
      whole = is.whole;
      is_shape = of;
      are = same_files i.shape shape i.subject i.keys i.files (a.columns ∙ sym of.columns) (a.kinds ∙ sym of.kinds) is.are;
      is = is.is ∙ same_bytes i.shape shape i.files (a.kinds ∙ sym of.kinds);
    }

pub groups_by : (bytes : List ℕ) (i : Input) (shape : Shape) → IsShapeOf (bound_of i) shape → IsInput bytes i → groups_in i ≡ groups_in (with_shape i shape)
groups_by bytes i shape of is =
    let a = is.is_shape in
    same_sum i.shape shape map.empty i.files (a.lanes ∙ sym of.lanes) (a.items ∙ sym of.items)
