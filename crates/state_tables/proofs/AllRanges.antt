-- What the ranges come to, each by itself, is what all groups come to.
use Rattle.std.proofs.Common.{◌≡◌, ◌<◌, ◌⊎◌, ◌∙◌, Contains, Err, Ok, ℕ, List, [], ◌∷◌, All, ap, arith, inl, inr, length, map, slice_index_or, subst, suc, sym}
use Rattle.std.specs.List.{AllZip}
use Rattle.std.proofs.lemmas.List.{get_or-map, length-map}
use Rattle.std.proofs.lemmas.List.Elements.{All-head, All-tail}
use Rattle.std.proofs.lemmas.Result.{MatchResult-at_err, MatchResult-at_ok}
use Rattle.std.proofs.lemmas.Simd.{map-map}
use Rattle.par_model.specs.Named.{NamedPlan}
use Rattle.par_model.specs.Plan.{Plan}
use Rattle.partial_agg.specs.Groups.{GroupsByKey}
use Rattle.partial_agg.specs.Listed.{listed}
use Rattle.partial_agg.specs.declared.groups.Group.{Group}
use Rattle.result_text.specs.Printable.{IsKeyOf}
use Rattle.result_text.specs.Text.{IsTextOf}
use Rattle.state_finalize.specs.Finished.{IsFinished, IsFinishedWithin, IsNotFinished}
use Rattle.state_finalize.specs.declared.finishing.FinishFault.{FinishFault}
use Rattle.state_finalize.specs.declared.finishing.FinishFault.TheVariants as fault
use Rattle.state_finalize.specs.declared.finishing.Finished.{Finished}
use Rattle.state_finalize.specs.declared.finishing.Finished.TheVariants.{Refused, Table}
use Rattle.state_head.specs.Words.{Keys}
use Rattle.state_head.specs.declared.cover.Stretch.{Stretch}
use Rattle.state_order.proofs.Kept.{each_within}
use Rattle.state_order.specs.Ranges.{AreWithin}
use Rattle.state_range.specs.Ranges.{IsTextWithin, RiseFrom, ranges_from}
use Rattle.state_ranges.specs.Parts.{IsRangeOf, ends_of}
use Rattle.state_ranges.specs.Sums.{AreRangeSums}
use Rattle.state_ranges.specs.declared.maps.RangeMap.{RangeMap}
use Rattle.state_ranges.specs.declared.sums.RangeSums.{RangeSums}
use Rattle.state_tables.specs.Jobs.{AreAll, AreDone, HasJob, HasText, IsDone, IsTextJob}
use Rattle.state_tables.specs.declared.finishing.Job.{Job}
use Rattle.state_tables.proofs.Texts.{ranges_are_text}
use Rattle.state_total.specs.Total.{IsCounted, IsWholeCover}
use Rattle.state_total.specs.declared.total.FirstRefused.{FirstRefused}

abbrev range_of : Job → RangeMap
range_of job = job.range

abbrev keys_at : Job → Keys
keys_at job = ends_of job.range

-- what holds of all ranges holds of the range of each job
under : (P : RangeMap → Type 0) (jobs : List Job) → All P (map range_of jobs) → All (λ (job : Job). P job.range) jobs
under P jobs all = λ k d lt.
    let long : k < length (map range_of jobs) = omega (arith, lt, length-map jobs range_of) in
    subst P (get_or-map range_of jobs k d (range_of d) lt) (all k (range_of d) long)

-- what each job is made of
pub jobs_read : (n : ℕ) (m : GroupsByKey) (cover : List Stretch) (sums : RangeSums) (jobs : List Job) → AreRangeSums n m cover sums → All (λ (g : Group). IsKeyOf n g.key) (listed m) → map range_of jobs ≡ sums.ranges.items
    → All (λ (job : Job). (job.range.columns ≡ n) × All (λ (g : Group). IsKeyOf n g.key) (listed job.range.map)) jobs
jobs_read n m cover sums jobs are keys of =
    let P : RangeMap → Type 0 = λ r. (r.columns ≡ n) × All (λ (g : Group). IsKeyOf n g.key) (listed r.map) in
    under P jobs (subst (All P) (sym of) (λ k d lt. read (slice_index_or sums.ranges.items k d) (are.are_ranges k d lt)))
  where
    read : (r : RangeMap) → IsRangeOf n m r → (r.columns ≡ n) × All (λ (g : Group). IsKeyOf n g.key) (listed r.map)
    read r is = (is.columns_are, each_within (λ (g : Group). IsKeyOf n g.key) n (ends_of r) m r.map is.are_within keys)

module _ (names : NamedPlan) (plan : Plan) (sources : ℕ) (m : GroupsByKey) (cover : List Stretch) where
  -- all bytes have counted rows, and a text is that of a range
  record HasOwn (range : Keys) (text : List ℕ) : Type 0 where
    pub whole : List Stretch
    pub is_whole : IsWholeCover sources cover whole
    pub counted : All IsCounted whole
    pub is_text : IsTextWithin names plan range m text

  own : (range : Keys) (f : Finished) (text : List ℕ) → HasText f text → IsFinishedWithin names plan sources range m cover f → HasOwn range text
  own range (Table pieces) text has done = record { whole = done.cover; is_whole = done.is_whole; counted = done.comes_to.0; is_text = subst (IsTextWithin names plan range m) (sym has) done.comes_to.1 }
  own range (Refused row) text has done = absurd has

  -- the map of a job has the groups of its range
  abbrev IsIn : Job → Type 0
  IsIn job = AreWithin (length plan.groups) (ends_of job.range) m job.range.map

  job_own : (old new : Job) (text : List ℕ) → IsIn old → IsDone names plan sources cover old new → IsTextJob new text → HasOwn (keys_at old) text
  job_own old new text are done has =
      own (keys_at old) has.finished text has.has (MatchResult-at_ok (IsFinishedWithin names plan sources (keys_at old) m cover) (IsNotFinished sources m cover) has.finished has.is (done m are))

  later : (o n : Job) (olds news : List Job) → AreDone names plan sources cover (o ∷ olds) (n ∷ news) → AreDone names plan sources cover olds news
  later o n olds news done = record { count = omega (arith, done.count); each = λ k d lt. done.each (suc k) d (omega (arith, lt)) }

  texts_within : (olds news : List Job) (texts : List (List ℕ)) → All IsIn olds → AreDone names plan sources cover olds news → AllZip IsTextJob news texts → AllZip (λ range text. IsTextWithin names plan range m text) (map keys_at olds) texts
  texts_within [] [] [] are done all = tt
  texts_within [] [] (t ∷ texts) are done all = absurd all
  texts_within [] (n ∷ news) texts are done all = absurd (omega (arith, done.count))
  texts_within (o ∷ olds) [] texts are done all = absurd (omega (arith, done.count))
  texts_within (o ∷ olds) (n ∷ news) [] are done all = absurd all
  texts_within (o ∷ olds) (n ∷ news) (t ∷ texts) are done all = (
    (job_own o n t (All-head IsIn o olds are) (done.each 0 o (omega arith)) all.0).is_text,
    texts_within olds news texts (All-tail IsIn o olds are) (later o n olds news done) all.1,
  )

  -- the first job says what all bytes have
  record HasWhole : Type 0 where
    pub range : Keys
    pub text : List ℕ
    pub has : HasOwn range text

  first_of : (olds news : List Job) (texts : List (List ℕ)) → 0 < length olds → All IsIn olds → AreDone names plan sources cover olds news → AllZip IsTextJob news texts → HasWhole
  first_of [] news texts some are done all = absurd (omega (arith, some))
  first_of (o ∷ olds) [] texts some are done all = absurd (omega (arith, done.count))
  first_of (o ∷ olds) (n ∷ news) [] some are done all = absurd all
  first_of (o ∷ olds) (n ∷ news) (t ∷ texts) some are done all = record { range = keys_at o; text = t; has = job_own o n t (All-head IsIn o olds are) (done.each 0 o (omega arith)) all.0 }

  -- a job, and what it was before
  record IsMadeOf (new : Job) : Type 0 where
    pub old : Job
    pub is_in : IsIn old
    pub done : IsDone names plan sources cover old new

  made_of : (olds news : List Job) (job : Job) → All IsIn olds → AreDone names plan sources cover olds news → Contains news job → IsMadeOf job
  made_of olds news job are done has =
      let many = done.count in
      let before = has.1 in
      let lt : has.0 < length olds = omega (arith, before, many) in
      record { old = slice_index_or olds has.0 job; is_in = are has.0 job lt; done = subst (IsDone names plan sources cover (slice_index_or olds has.0 job)) has.2 (done.each has.0 job lt) }

  job_refused : (job : Job) (row : FirstRefused) → job.done ≡ Ok (Refused row) → IsMadeOf job → IsFinished names plan sources m cover (Refused row)
  job_refused job row is made =
      let f : IsFinishedWithin names plan sources (keys_at made.old) m cover (Refused row) =
      MatchResult-at_ok (IsFinishedWithin names plan sources (keys_at made.old) m cover) (IsNotFinished sources m cover) (Refused row) is (made.done m made.is_in) in
      record { cover = f.cover; is_whole = f.is_whole; comes_to = f.comes_to }

  job_fault : (job : Job) (why : FinishFault) → job.done ≡ Err why → IsMadeOf job → IsNotFinished sources m cover why
  job_fault job why is made = MatchResult-at_err (IsFinishedWithin names plan sources (keys_at made.old) m cover) (IsNotFinished sources m cover) why is (made.done m made.is_in)

  some_range : (cuts : List (List ℕ)) → 0 < length (ranges_from [] cuts)
  some_range [] = omega arith
  some_range (cut ∷ cuts) = omega arith

  some_job : (cuts : List (List ℕ)) (jobs : List Job) → map keys_at jobs ≡ ranges_from [] cuts → 0 < length jobs
  some_job cuts jobs ends =
      let some = some_range cuts in
      omega (arith, some, ap (λ (ks : List Keys). length ks) ends, length-map jobs keys_at)

  come_to : (cuts : List (List ℕ)) (olds news : List Job) (f : Finished) → (length plan.groups ≡ 0 → ⊥) → All (λ (g : Group). IsKeyOf (length plan.groups) g.key) (listed m) → RiseFrom (length plan.groups) [] cuts
      → map keys_at olds ≡ ranges_from [] cuts → All IsIn olds → AreDone names plan sources cover olds news → AreAll news f → IsFinished names plan sources m cover f
  come_to cuts olds news (Refused row) some keys rise ends are done all = job_refused all.job row all.has (made_of olds news all.job are done all.is)
  come_to cuts olds news (Table pieces) some keys rise ends are done all =
      let texts = all.0 in
      let first = first_of olds news texts (some_job cuts olds ends) are done all.1 in
      let each = subst (λ (ks : List Keys). AllZip (λ range text. IsTextWithin names plan range m text) ks texts) ends (texts_within olds news texts are done all.1) in
      record {
        cover = first.has.whole;
        is_whole = first.has.is_whole;
        comes_to = (first.has.counted, subst (IsTextOf names plan (listed m)) (sym all.2) (ranges_are_text names plan m cuts texts some keys rise each));
      }

  -- ---- of the ranges of sums

  abbrev AreOf : RangeSums → Type 0
  AreOf sums = AreRangeSums (length plan.groups) m cover sums

  all_in : (sums : RangeSums) (jobs : List Job) → AreOf sums → map range_of jobs ≡ sums.ranges.items → All IsIn jobs
  all_in sums jobs are of =
      let P : RangeMap → Type 0 = λ r. AreWithin (length plan.groups) (ends_of r) m r.map in
      under P jobs (subst (All P) (sym of) (λ k d lt. (are.are_ranges k d lt).are_within))

  all_ends : (sums : RangeSums) (jobs : List Job) (are : AreOf sums) → map range_of jobs ≡ sums.ranges.items → map keys_at jobs ≡ ranges_from [] are.cuts
  all_ends sums jobs are of = sym (map-map ends_of range_of jobs) ∙ ap (map ends_of) of ∙ are.ends

  pub all_finished : (sums : RangeSums) (olds news : List Job) (f : Finished) → (length plan.groups ≡ 0 → ⊥) → All (λ (g : Group). IsKeyOf (length plan.groups) g.key) (listed m) → AreOf sums → map range_of olds ≡ sums.ranges.items
      → AreDone names plan sources sums.cover.items olds news → AreAll news f → IsFinished names plan sources m cover f
  all_finished sums olds news f some keys are of done all =
      come_to are.cuts olds news f some keys are.rise (all_ends sums olds are of) (all_in sums olds are of) (subst (λ (ss : List Stretch). AreDone names plan sources ss olds news) are.cover_is done) all

  pub all_not : (sums : RangeSums) (olds news : List Job) (why : FinishFault) → AreOf sums → map range_of olds ≡ sums.ranges.items → AreDone names plan sources sums.cover.items olds news → (why ≡ fault.Memory) ⊎ HasJob news (Err why) → IsNotFinished sources m cover why
  all_not sums olds news why are of done (inl e) = subst (IsNotFinished sources m cover) (sym e) tt
  all_not sums olds news why are of done (inr has) =
      job_fault has.job why has.has (made_of olds news has.job (all_in sums olds are of) (subst (λ (ss : List Stretch). AreDone names plan sources ss olds news) are.cover_is done) has.is)
