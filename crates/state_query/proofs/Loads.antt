-- What is loaded of an input.
use Rattle.std.proofs.Common.{◌≡◌, ◌<◌, ◌++◌, ℕ, Bool, false, true, List, Option, [], ◌∷◌, ap, append_assoc, append-nil, arith, inr, length, length-append, refl, subst, sym, ◌∙◌}
use Rattle.std.proofs.KnownBytes.{Consumes-nil}
use Rattle.std.specs.FinMap as map
use Rattle.par_model.specs.Named.{bound_plan}
use Rattle.par_model.specs.Plan.{Plan}
use Rattle.state_front.specs.Front.{IsFront, IsNoFront, front_bytes, name_bytes}
use Rattle.state_front.specs.declared.title.FrontFault.{FrontFault}
use Rattle.state_front.specs.declared.title.FrontFault.TheVariants as front_fault
use Rattle.state_head.specs.Head.{Preface, Subject, subject_of}
use Rattle.state_head.specs.Words.{Keys, keys_of}
use Rattle.state_load.specs.Faults.{AreNoParts}
use Rattle.state_load.specs.Loading.{AreAdded, AreParts, files_bytes, stretches_of}
use Rattle.state_load.specs.declared.loading.LoadFault.{LoadFault}
use Rattle.state_plan.specs.FilePlans.{AskFor, HasNoPlan, IsPlanOf, header_of}
use Rattle.state_plan.specs.declared.file_plan.FilePlan.{FilePlan}
use Rattle.state_plan.specs.declared.file_plan.PlanFault.{PlanFault}
use Rattle.state_ranges.specs.Sums.{AreRangeSums}
use Rattle.state_ranges.specs.declared.sums.RangeSums.{RangeSums}
use Rattle.state_source.specs.Adding.{IsFaultOf}
use Rattle.state_source.specs.Beside.{AreInRanges}
use Rattle.state_source.specs.Reading.{EndsAt, HasFront, IsNoLoad, OfLeft}
use Rattle.state_source.specs.declared.adding.SourceFault.{SourceFault}
use Rattle.state_source.specs.declared.adding.SourceFault.TheVariants as fault
use Rattle.state_source.proofs.Rests.{of_any, of_end}
use Rattle.state_whole.specs.Adding.{IsShapeOf}
use Rattle.state_whole.specs.Files.{StateFile}
use Rattle.state_whole.specs.declared.adding.Shape.{Shape}
use Rattle.state_whole.specs.declared.files.Sum.{Sum}
use Rattle.state_query.specs.Inputs.{Input, IsInRanges, IsInput, IsLoaded, IsOpened, bound_of, groups_in}
use Rattle.state_query.specs.declared.input.Opened.{Opened}
use Rattle.state_query.specs.Whys.{GoesWrong, IsNoSource, NamesNoPlan}

-- a front has bytes
front_some : (p : Preface) → 0 < length (front_bytes p)
unfolding front_bytes
front_some p = omega (arith, length-append name_bytes)

-- so its bytes are not those of no files
some_files : (shape : Shape) (front : Preface) (rest bytes : List ℕ) (files : List StateFile) → bytes ≡ front_bytes front ++ rest → bytes ≡ files_bytes shape files → 0 < length files
some_files shape front rest bytes [] begins is =
    let some = front_some front in
    let none : length bytes ≡ 0 = ap length is in
    absurd (omega (arith, some, none, ap length begins, length-append (front_bytes front) rest))
some_files shape front rest bytes (f ∷ files) begins is = omega arith

-- bytes that come after the front change nothing
pub opened_more : (bytes more : List ℕ) (opened : Opened) → IsOpened bytes opened → IsOpened (bytes ++ more) opened
opened_more bytes more opened is = record {
  front = is.front;
  is_front = is.is_front;
  rest = is.rest ++ more;
  begins = ap (λ (bs : List ℕ). bs ++ more) is.begins ∙ append_assoc (front_bytes is.front) is.rest more;
  subject_is = is.subject_is;
  keys_are = is.keys_are;
  is_plan = is.is_plan;
}

-- the shape of a plan over the columns of a header
pub shape_of : (s : Subject) (plan : FilePlan) (shape : Shape) → IsPlanOf s plan → IsShapeOf plan.bound shape → IsShapeOf (bound_plan (header_of plan.plan.reading s) plan.plan.plan) shape
shape_of s plan shape is of = subst (λ (p : Plan). IsShapeOf p shape) is.bound of

abbrev pub made_of : Opened → Shape → List StateFile → Input
made_of opened shape files = record { subject = subject_of opened.whole; keys = keys_of opened.range; query = opened.plan.plan; shape = shape; files = files }

-- files of the query of the first one are an input
made_input : (bytes : List ℕ) (opened : Opened) (shape : Shape) (files : List StateFile) → IsOpened bytes opened → IsShapeOf opened.plan.bound shape → AreParts shape (subject_of opened.whole) (keys_of opened.range) files → bytes ≡ files_bytes shape files
    → IsInput bytes (made_of opened shape files)
made_input bytes opened shape files is of are whole = record {
  some = some_files shape is.front is.rest bytes files is.begins whole;
  ask_for = is.is_plan.ask_for;
  one = is.is_plan.one;
  whole = is.is_plan.whole;
  is_shape = shape_of (subject_of opened.whole) opened.plan shape is.is_plan of;
  are = are;
  is = whole;
}

pub loaded : (within : Keys) (bytes : List ℕ) (opened : Opened) (shape : Shape) (sum : Sum) (count : ℕ) (is : IsOpened bytes opened) → IsShapeOf opened.plan.bound shape → sum.kept.columns ≡ length opened.plan.bound.groups → keys_of sum.kept.range ≡ within
    → AreAdded shape (subject_of opened.whole) (keys_of opened.range) bytes map.empty [] sum count → IsLoaded within bytes (record { whole = opened.whole; range = opened.range; plan = opened.plan; sum = sum })
loaded within bytes opened shape sum count is of columns range added = record {
  input = made_of opened shape added.files;
  is_input = made_input bytes opened shape added.files is of added.are added.is;
  subject_is = refl;
  keys_are = refl;
  is_plan = is.is_plan;
  query_is = refl;
  columns_are = columns ∙ ap (λ (p : Plan). length p.groups) is.is_plan.bound;
  within_is = range;
  sum_is = added.sum_is;
}

-- likewise in ranges
pub in_ranges : (bytes : List ℕ) (opened : Opened) (shape : Shape) (sums : RangeSums) → IsOpened bytes opened → IsShapeOf opened.plan.bound shape → AreInRanges shape (subject_of opened.whole) (keys_of opened.range) bytes sums → IsInRanges bytes opened sums
in_ranges bytes opened shape sums is of are =
    let i = made_of opened shape are.files in
    let columns : shape.columns ≡ length (bound_of i).groups = of.columns ∙ ap (λ (p : Plan). length p.groups) is.is_plan.bound in
    record {
      input = i;
      is_input = made_input bytes opened shape are.files is of are.are are.is;
      subject_is = refl;
      is_plan = is.is_plan;
      query_is = refl;
      sum_is = subst (λ (n : ℕ). AreRangeSums n (groups_in i) (stretches_of are.files) sums) columns are.sum_is;
    }

-- a file that is not taken
pub goes_wrong : (bytes : List ℕ) (opened : Opened) (shape : Shape) (fault : LoadFault) → IsOpened bytes opened → IsShapeOf opened.plan.bound shape → AreNoParts shape (subject_of opened.whole) (keys_of opened.range) map.empty bytes fault → GoesWrong bytes fault
goes_wrong bytes opened shape fault is of none =
    let by_keys = subst (λ (k : Keys). AreNoParts shape (subject_of opened.whole) k map.empty bytes fault) (sym is.keys_are) none in
    record {
      front = is.front;
      begins = record { is_front = is.is_front; rest = is.rest; is = is.begins };
      query = opened.plan.plan;
      ask_for = subst (λ (s : Subject). AskFor s.words opened.plan.plan) (sym is.subject_is) is.is_plan.ask_for;
      shape = shape;
      is_shape = subst (λ (s : Subject). IsShapeOf (bound_plan (header_of opened.plan.plan.reading s) opened.plan.plan.plan) shape) (sym is.subject_is) (shape_of (subject_of opened.whole) opened.plan shape is.is_plan of);
      none = subst (λ (s : Subject). AreNoParts shape s is.front.keys map.empty bytes fault) (sym is.subject_is) by_keys;
    }

-- of a source
pub source_wrong : (bytes : List ℕ) (opened : Opened) (shape : Shape) (why : SourceFault) → IsOpened bytes opened → IsShapeOf opened.plan.bound shape → IsFaultOf shape (subject_of opened.whole) (keys_of opened.range) map.empty bytes why → IsNoSource bytes why
source_wrong bytes opened shape fault.ReadFault is of none = tt
source_wrong bytes opened shape fault.Memory is of none = tt
source_wrong bytes opened shape (fault.Load at) is of none = inr (goes_wrong bytes opened shape at is of none)

pub no_source : (bytes : List ℕ) (why : SourceFault) → IsNoLoad why → IsNoSource bytes why
no_source bytes fault.ReadFault is = tt
no_source bytes fault.Memory is = tt
no_source bytes (fault.Load at) is = absurd is

-- ---- a first file that is not opened

-- there is no front, and there will be none
pub no_front : (first : List ℕ) (ended : Bool) (left : Option (List ℕ)) (why : FrontFault) → (ended ≡ false → HasFront first) → EndsAt ended left → IsNoFront first why
    → ((p : Preface) (rest : List ℕ) → IsFront p → first ≡ front_bytes p ++ rest → why ≡ front_fault.Memory) → OfLeft left (λ more. IsNoFront (first ++ more) why)
no_front first true left why front end none memory = of_end left left [] (λ more. IsNoFront (first ++ more) why) (Consumes-nil left) (end refl) (subst (λ (bs : List ℕ). IsNoFront bs why) (sym (append-nil first)) none)
no_front first false left why front end none memory =
    let has = front refl in
    of_any left (λ more. IsNoFront (first ++ more) why) (λ more. subst (IsNoFront (first ++ more)) (sym (memory has.front has.rest has.is_front has.is)) tt)

-- or a front without a plan
pub no_plan : (first more rest : List ℕ) (front : Preface) (why : PlanFault) → IsFront front → first ≡ front_bytes front ++ rest → HasNoPlan front.subject why → NamesNoPlan (first ++ more) why
no_plan first more rest front why is_front is none = record {
  front = front;
  begins = record { is_front = is_front; rest = rest ++ more; is = ap (λ (bs : List ℕ). bs ++ more) is ∙ append_assoc (front_bytes front) rest more };
  none = none;
}
