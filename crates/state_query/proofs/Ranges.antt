-- What a loaded input comes to in a range of keys.
use Rattle.std.proofs.Common.{◌≡◌, ◌⊎◌, inl, inr, ℕ, List, ap, length, subst, sym}
use Rattle.std.specs.Global.{Vec}
use Rattle.par_model.specs.Plan.{Plan}
use Rattle.plan_spec.specs.Query.{Query}
use Rattle.result_text.specs.Pieces.{joined}
use Rattle.state_finalize.specs.Finished.{IsFinishedWithin, IsNotFinished}
use Rattle.state_finalize.specs.declared.finishing.FinishFault.{FinishFault}
use Rattle.state_finalize.specs.declared.finishing.Finished.TheVariants.{Refused, Table}
use Rattle.state_head.specs.Head.{Subject}
use Rattle.state_head.specs.Words.{Keys, keys_of}
use Rattle.state_head.specs.declared.cover.Stretch.{Stretch}
use Rattle.state_load.specs.Loading.{stretches_of}
use Rattle.state_range.specs.Ranges.{IsTextWithin}
use Rattle.state_total.specs.declared.total.FirstRefused.{FirstRefused}
use Rattle.state_query.specs.Inputs.{HasRefusedRow, groups_in, IsLoaded}
use Rattle.state_query.specs.Ranges.{HasNoEnd, HasTextWithin, IsEndOf, IsNoEnds, IsRangeStop, IsRangeText, columns_in}
use Rattle.state_query.specs.Whys.{IsStopOf}
use Rattle.state_query.specs.declared.input.Loaded.{Loaded}
use Rattle.state_query.specs.declared.stop.Stop.{Stop}
use Rattle.state_query.proofs.Ends.{bound_is, whole_of}

has_text_within : {within : Keys} (bytes : List ℕ) (l : Loaded) (range : Keys) (pieces : Vec (Vec ℕ)) (is : IsLoaded within bytes l) → IsFinishedWithin l.plan.plan.plan l.plan.bound l.whole.sources range (groups_in is.input) l.sum.cover.items (Table pieces)
    → HasTextWithin is.input range (joined pieces.items)
has_text_within bytes l range pieces is done =
    let text = joined pieces.items in
    let i = is.input in
    let by_query = subst (λ (q : Query). IsTextWithin q.plan l.plan.bound range (groups_in i) text) is.query_is done.comes_to.1 in
    record {
      cover = done.cover;
      is_whole = whole_of bytes l is done.cover done.is_whole;
      counted = done.comes_to.0;
      is = subst (λ (p : Plan). IsTextWithin i.query.plan p range (groups_in i) text) (bound_is bytes l is) by_query;
    }

-- how many columns there are
many : {within : Keys} (bytes : List ℕ) (l : Loaded) (is : IsLoaded within bytes l) → length l.plan.bound.groups ≡ columns_in is.input
many bytes l is = ap (λ (p : Plan). length p.groups) (bound_is bytes l is)

pub range_text : (bytes : List ℕ) (l : Loaded) (above below : List ℕ) (range : Keys) (pieces : Vec (Vec ℕ)) (is : IsLoaded range bytes l) → IsEndOf (length l.plan.bound.groups) above range.low → IsEndOf (length l.plan.bound.groups) below range.high
    → IsFinishedWithin l.plan.plan.plan l.plan.bound l.whole.sources (keys_of l.sum.kept.range) (groups_in is.input) l.sum.cover.items (Table pieces) → IsRangeText above below bytes (joined pieces.items)
range_text bytes l above below range pieces is low high done = record {
  input = is.input;
  is_input = is.is_input;
  range = range;
  is_range = record {
    low = subst (λ (n : ℕ). IsEndOf n above range.low) (many bytes l is) low;
    high = subst (λ (n : ℕ). IsEndOf n below range.high) (many bytes l is) high;
  };
  has_text = has_text_within bytes l range pieces is (subst (λ (k : Keys). IsFinishedWithin l.plan.plan.plan l.plan.bound l.whole.sources k (groups_in is.input) l.sum.cover.items (Table pieces)) is.within_is done);
}

pub row_within : {within : Keys} (bytes : List ℕ) (l : Loaded) (range : Keys) (row : FirstRefused) (is : IsLoaded within bytes l) → IsFinishedWithin l.plan.plan.plan l.plan.bound l.whole.sources range (groups_in is.input) l.sum.cover.items (Refused row) → HasRefusedRow is.input row
row_within bytes l range row is done = record { cover = done.cover; is_whole = whole_of bytes l is done.cover done.is_whole; first = done.comes_to }

-- what files do not come to in a range
pub not_within : {within : Keys} (bytes : List ℕ) (l : Loaded) (why : FinishFault) (is : IsLoaded within bytes l) → IsNotFinished l.whole.sources (groups_in is.input) l.sum.cover.items why → IsNotFinished is.input.subject.sources (groups_in is.input) (stretches_of is.input.files) why
not_within bytes l why is none =
    let i = is.input in
    let by_sources = subst (λ (s : Subject). IsNotFinished s.sources (groups_in i) l.sum.cover.items why) is.subject_is none in
    subst (λ (ss : List Stretch). IsNotFinished i.subject.sources (groups_in i) ss why) is.sum_is.cover_is by_sources

-- ---- a word that is no end

-- of files that are right the word is what is wrong
pub no_ends : {within : Keys} (bytes : List ℕ) (l : Loaded) (above below : List ℕ) (why : Stop) → IsLoaded within bytes l → IsNoEnds (length l.plan.bound.groups) above below why → IsRangeStop above below bytes why
no_ends bytes l above below why is (inl e) = inr (subst (IsStopOf bytes) (sym e) tt)
no_ends bytes l above below why is (inr none) =
    inl (none.0, record { input = is.input; is_input = is.is_input; none = subst (λ (n : ℕ). HasNoEnd n above ⊎ HasNoEnd n below) (many bytes l is) none.1 })
