-- What an input whose groups are in ranges comes to.
use Rattle.std.proofs.Common.{◌≡◌, ◌∙◌, ℕ, List, All, ap, length, subst, sym}
use Rattle.std.specs.Global.{Vec}
use Rattle.par_model.specs.Named.{bound_plan}
use Rattle.par_model.specs.Plan.{Plan}
use Rattle.partial_agg.specs.Groups.{GroupsByKey}
use Rattle.partial_agg.specs.Listed.{listed}
use Rattle.partial_agg.specs.declared.groups.Group.{Group as MapGroup}
use Rattle.plan_spec.specs.Query.{Query}
use Rattle.result_text.specs.Pieces.{joined}
use Rattle.result_text.specs.Printable.{IsKeyOf}
use Rattle.state_finalize.specs.Finished.{IsFinished, IsNotFinished}
use Rattle.state_finalize.specs.declared.finishing.FinishFault.{FinishFault}
use Rattle.state_finalize.specs.declared.finishing.Finished.{Finished}
use Rattle.state_finalize.specs.declared.finishing.Finished.TheVariants.{Refused, Table}
use Rattle.state_head.specs.Cover.{IsStretch}
use Rattle.state_head.specs.Head.{Subject}
use Rattle.state_head.specs.declared.cover.Stretch.{Stretch}
use Rattle.state_load.specs.Loading.{stretches_of}
use Rattle.state_plan.specs.FilePlans.{header_of}
use Rattle.state_ranges.specs.Sums.{AreRangeSums}
use Rattle.state_ranges.specs.declared.sums.RangeSums.{RangeSums}
use Rattle.state_total.specs.declared.total.FirstRefused.{FirstRefused}
use Rattle.state_query.specs.Inputs.{HasRefusedRow, Input, IsInput, IsInRanges, IsTableOf, bound_of, groups_in}
use Rattle.state_query.specs.declared.input.Opened.{Opened}
use Rattle.state_query.proofs.Keys.{keys_of_sum, stretches_of_sum}

-- ---- an input

keys_of_input : (bytes : List ℕ) (i : Input) → IsInput bytes i → All (λ (g : MapGroup). IsKeyOf (length (bound_of i).groups) g.key) (listed (groups_in i))
keys_of_input bytes i is = subst (λ (n : ℕ). All (λ (g : MapGroup). IsKeyOf n g.key) (listed (groups_in i))) is.is_shape.columns (keys_of_sum i.shape i.subject i.keys i.files is.are)

-- what its groups and its stretches come to
abbrev ComesTo : Input → Finished → Type 0
ComesTo i f = IsFinished i.query.plan (bound_of i) i.subject.sources (groups_in i) (stretches_of i.files) f

table_of : (bytes : List ℕ) (i : Input) (pieces : Vec (Vec ℕ)) → IsInput bytes i → ComesTo i (Table pieces) → IsTableOf bytes (joined pieces.items)
table_of bytes i pieces is done = record {
  input = i;
  is_input = is;
  has_text = record { cover = done.cover; is_whole = record { is_cover = done.is_whole }; counted = done.comes_to.0; is = done.comes_to.1 };
}

row_of : (i : Input) (row : FirstRefused) → ComesTo i (Refused row) → HasRefusedRow i row
row_of i row done = record { cover = done.cover; is_whole = record { is_cover = done.is_whole }; first = done.comes_to }

-- ---- in ranges

module _ (bytes : List ℕ) (o : Opened) (sums : RangeSums) (is : IsInRanges bytes o sums) where
  -- the plan over the columns of the header
  bound_is : o.plan.bound ≡ bound_of is.input
  bound_is = is.is_plan.bound ∙ ap (λ (q : Query). bound_plan (header_of q.reading is.input.subject) q.plan) is.query_is

  pub sums_are : AreRangeSums (length o.plan.bound.groups) (groups_in is.input) (stretches_of is.input.files) sums
  sums_are = subst (λ (p : Plan). AreRangeSums (length p.groups) (groups_in is.input) (stretches_of is.input.files) sums) (sym bound_is) is.sum_is

  pub keys_are : All (λ (g : MapGroup). IsKeyOf (length o.plan.bound.groups) g.key) (listed (groups_in is.input))
  keys_are = subst (λ (p : Plan). All (λ (g : MapGroup). IsKeyOf (length p.groups) g.key) (listed (groups_in is.input))) (sym bound_is) (keys_of_input bytes is.input is.is_input)

  pub stretches_are : All (IsStretch o.whole.sources) (stretches_of is.input.files)
  stretches_are = subst (λ (s : Subject). All (IsStretch s.sources) (stretches_of is.input.files)) (sym is.subject_is) (stretches_of_sum is.input.shape is.input.subject is.input.keys is.input.files is.is_input.are)

  -- what the ranges come to, whatever groups and stretches are in them
  abbrev Come : Finished → Type 0
  Come f = (m : GroupsByKey) (cover : List Stretch) → AreRangeSums (length o.plan.bound.groups) m cover sums → All (λ (g : MapGroup). IsKeyOf (length o.plan.bound.groups) g.key) (listed m) → IsFinished o.plan.plan.plan o.plan.bound o.whole.sources m cover f

  abbrev ComeNot : FinishFault → Type 0
  ComeNot why = (m : GroupsByKey) (cover : List Stretch) → AreRangeSums (length o.plan.bound.groups) m cover sums → IsNotFinished o.whole.sources m cover why

  -- the input comes to it
  comes_to : (f g : Finished) → f ≡ g → Come f → ComesTo is.input g
  comes_to f g same come =
      let m = groups_in is.input in
      let cover = stretches_of is.input.files in
      let here = subst (λ (x : Finished). IsFinished o.plan.plan.plan o.plan.bound o.whole.sources m cover x) same (come m cover sums_are keys_are) in
      let by_query = subst (λ (q : Query). IsFinished q.plan o.plan.bound o.whole.sources m cover g) is.query_is here in
      let by_bound = subst (λ (p : Plan). IsFinished is.input.query.plan p o.whole.sources m cover g) bound_is by_query in
      subst (λ (s : Subject). IsFinished is.input.query.plan (bound_of is.input) s.sources m cover g) is.subject_is by_bound

  pub table_in : (f : Finished) (pieces : Vec (Vec ℕ)) → f ≡ Table pieces → Come f → IsTableOf bytes (joined pieces.items)
  table_in f pieces same come = table_of bytes is.input pieces is.is_input (comes_to f (Table pieces) same come)

  pub row_in : (f : Finished) (row : FirstRefused) → f ≡ Refused row → Come f → HasRefusedRow is.input row
  row_in f row same come = row_of is.input row (comes_to f (Refused row) same come)

  pub not_in : (why : FinishFault) → ComeNot why → IsNotFinished is.input.subject.sources (groups_in is.input) (stretches_of is.input.files) why
  not_in why come = subst (λ (s : Subject). IsNotFinished s.sources (groups_in is.input) (stretches_of is.input.files) why) is.subject_is (come (groups_in is.input) (stretches_of is.input.files) sums_are)
