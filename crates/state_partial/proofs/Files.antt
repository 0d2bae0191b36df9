-- The file of what was read.
use Rattle.std.proofs.Common.{inl, inr, ◌≡◌, ◌<◌, ◌≤◌, ◌^◌, ◌||◌, ◌∷◌, ◌∙◌, ℕ, Bool, true, false, List, [], All, Option, None, Some, ap, arith, length, refl, subst, sym}
use Rattle.std.specs.Bool.{OnTrue}
use Rattle.std.specs.FinMap as map
use Rattle.std.specs.Prelude.{map as map_list}
use Rattle.std.proofs.lemmas.List.Elements.{All-head}
use Rattle.std.proofs.lemmas.List.Sorted.{length_permutation}
use Rattle.csv_rows.specs.Readings.{records_in}
use Rattle.csv_rows.specs.Records.{record_at, records_of}
use Rattle.csv_rows.proofs.Cleaned.{as-length}
use Rattle.par_model.specs.Named.{bound_plan, missing_name}
use Rattle.par_model.specs.Plan.{Plan}
use Rattle.par_model.specs.declared.state.AggState.{AggState}
use Rattle.partial_agg.specs.Groups.{AreGroups, GroupsByKey, group_of, key_cmp}
use Rattle.partial_agg.specs.Listed.{group, listed}
use Rattle.partial_agg.specs.declared.groups.Group.{Group as MapGroup}
use Rattle.plan_spec.specs.Query.{Query}
use Rattle.result_text.specs.Printable.{IsKeyOf}
use Rattle.result_text.proofs.Uses.{All-listed, printable-listed}
use Rattle.row_blocks.specs.Blocks.{Table}
use Rattle.state_blocks.specs.Blocks.{Group}
use Rattle.state_front.specs.Front.{IsFront}
use Rattle.state_head.specs.Cover.{IsCover}
use Rattle.state_head.specs.Head.{Preface, Subject, head_bytes}
use Rattle.state_head.specs.Words.{AreWords, Keys, Words}
use Rattle.state_head.specs.declared.cover.Place.{Place}
use Rattle.state_head.specs.declared.cover.Rows.{Rows}
use Rattle.state_head.specs.declared.cover.Rows.TheVariants.{Counted, Refused}
use Rattle.state_head.specs.declared.cover.Stretch.{Stretch}
use Rattle.state_order.specs.Order.{IsIn}
use Rattle.state_plan.specs.FilePlans.{AskFor, IsPlanOf, header_of}
use Rattle.state_plan.specs.declared.file_plan.FilePlan.{FilePlan}
use Rattle.state_save.specs.Saving.{AreTuplesOf, DoNotFit, IsFileOf, IsTold, LongIsKnown, SavedIsRead}
use Rattle.state_whole.specs.Adding.{IsShape, IsShapeOf}
use Rattle.state_whole.specs.Files.{IsStateFile, StateFile, file_bytes, tuples_in}
use Rattle.state_whole.specs.Sums.{has_refused, is_refused}
use Rattle.state_whole.specs.declared.adding.Shape.{Shape}
use Rattle.state_partial.specs.Parts.{IsFileAt, IsPartText, SaysNothing}
use Rattle.state_partial.specs.Places.{AreRead, IsCoverOf, text_by}
use Rattle.state_partial.specs.Reads.{AreRowsOf, IsPartRead}
use Rattle.state_law.specs.Told.{GroupsAreTold}
use Rattle.state_law.specs.Truth.{IsReadOf}
use Rattle.state_partial.specs.TooLong.{HasNoRoom, IsLongPart}
use Rattle.state_partial.specs.Words.{Asked, asked_in}
use Rattle.state_partial.specs.declared.reading.Part.{Part}
use Rattle.state_partial.proofs.Few.{few_groups}
use Rattle.state_partial.proofs.Found.{one_record}

-- what holds if a test succeeds
pub on_true : {P : Type 0} (b : Bool) → b ≡ true → OnTrue b P → P
on_true {P} b e holds = subst (λ (b : Bool). OnTrue b P) e holds

nil_of_length : {A : Type 0} (xs : List A) → length xs ≡ 0 → xs ≡ []
nil_of_length [] e = refl
nil_of_length (x ∷ xs) e = absurd (omega (arith, e))

-- a map with no groups lists none
none_listed : (m : GroupsByKey) → m ≡ map.empty → listed m ≡ []
none_listed m e =
    let no : map.entries (map.empty {K = List ℕ} {X = AggState} {R = key_cmp}) ≡ [] = nil_of_length (map.entries map.empty) (sym (map.len-entries map.empty) ∙ map.len-empty key_cmp AggState) in
    ap listed e ∙ ap (map_list group) no

-- its file has no tuples
no_tuples : (shape : Shape) (groups : List MapGroup) (tuples : List Group) → groups ≡ [] → AreTuplesOf shape groups tuples → tuples ≡ []
no_tuples shape [] tuples e are = nil_of_length tuples (length_permutation [] tuples are.same)
no_tuples shape (g ∷ groups) tuples e are = cc e

-- ---- the keys of the groups

module _ (query : Query) (header : List (List ℕ)) (count : ℕ) (count_is : count ≡ length (bound_plan header query.plan).groups) where
  keys_in : (rows : Rows) (from : Option (List ℕ)) (m : GroupsByKey) → AreRowsOf query header from rows m → All (λ (g : MapGroup). IsKeyOf count g.key) (listed m)
  keys_in (Counted many) from m are =
      subst (λ (n : ℕ). All (λ (g : MapGroup). IsKeyOf n g.key) (listed m)) (sym count_is) (printable-listed (bound_plan header query.plan) are.rows m are.few are.are).keys
  keys_in (Refused why) from m are = subst (All (λ (g : MapGroup). IsKeyOf count g.key)) (sym (none_listed m are.none)) (λ k d low. absurd (omega (arith, low)))

-- a plan over the header of what was read
bound_is : (query : Query) (from : Option (List ℕ)) (p : Part) (read : IsPartRead query from p) (s : Subject) (plan : FilePlan) → s.header ≡ p.header.items → IsPlanOf s plan → plan.plan ≡ query
    → plan.bound ≡ bound_plan read.header query.plan
bound_is query from p read s plan header is same =
    let fields : header_of query.reading s ≡ read.header = ap (λ (l : List ℕ). record_at (records_in query.reading l) 0) header ∙ ap (λ (rs : List (List (List ℕ))). record_at rs 0) read.one in
    is.bound ∙ (ap (λ (q : Query). bound_plan (header_of q.reading s) q.plan) same ∙ ap (λ (h : List (List ℕ)). bound_plan h query.plan) fields)

pub keys_read : (query : Query) (from : Option (List ℕ)) (p : Part) (read : IsPartRead query from p) (s : Subject) (plan : FilePlan) (shape : Shape) → s.header ≡ p.header.items → IsPlanOf s plan → plan.plan ≡ query
    → IsShapeOf plan.bound shape → All (λ (g : MapGroup). IsKeyOf shape.columns g.key) (listed p.map)
keys_read query from p read s plan shape header is same of_shape =
    keys_in query read.header shape.columns (of_shape.columns ∙ ap (λ (b : Plan). length b.groups) (bound_is query from p read s plan header is same)) p.rows from p.map read.are

-- ---- the file

-- no group of no rows
none_first : (plan : Plan) (groups : List MapGroup) → All (λ (g : MapGroup). group_of plan [] g.key ≡ Some g.state) groups → groups ≡ []
none_first plan [] all = refl
none_first plan (g ∷ groups) all =
    let one = All-head (λ (g : MapGroup). group_of plan [] g.key ≡ Some g.state) g groups all in
    cc one

none_grouped : (plan : Plan) (rows : Table) (m : GroupsByKey) → rows ≡ [] → AreGroups plan rows m → listed m ≡ []
none_grouped plan rows m none are = none_first plan (listed m) (All-listed plan [] m (subst (λ (rs : Table). AreGroups plan rs m) none are))

module _ (query : Query) (header : List (List ℕ)) (read : List ℕ) (shape : Shape) (of_shape : IsShapeOf (bound_plan header query.plan) shape) (p : Place) (f : StateFile) where
  read_by : (rows : Rows) (m : GroupsByKey) → AreRowsOf query header (Some read) rows m → f.preface.cover ≡ record { place = p; rows = rows } ∷ [] → AreTuplesOf shape (listed m) (tuples_in f)
      → IsReadOf query.plan query.reading header p read f
  read_by (Counted many) m are cover tuples = record {
    rows = are.rows;
    records = are.all;
    told = Counted many;
    cover = cover;
    are_told = (are.counted, are.none);
    tuples = record { shape = shape; is_shape = of_shape; groups = m; are_groups = are.are; are = tuples };
  }
  read_by (Refused why) m are cover tuples = record {
    rows = are.first.rows;
    records = are.first.are;
    told = Refused why;
    cover = cover;
    are_told = are.first.first;
    tuples = no_tuples shape (listed m) (tuples_in f) (none_listed m are.none) tuples;
  }

  -- of no bytes there are no rows
  nothing_by : (rows : Rows) (m : GroupsByKey) → AreRowsOf query header (Some read) rows m → length (records_of read) ≤ 1 → p.from ≡ p.to → f.preface.cover ≡ [] → AreTuplesOf shape (listed m) (tuples_in f)
      → SaysNothing query.reading header p read f
  nothing_by (Counted many) m are few none cover tuples =
      let rows : are.rows ≡ [] = nil_of_length are.rows (omega (arith, ap length are.all, as-length query.reading read, few)) in
      record {
        none = none;
        records = are.all ∙ ap (λ (rs : Table). header ∷ rs) rows;
        cover = cover;
        tuples = no_tuples shape (listed m) (tuples_in f) (none_grouped (bound_plan header query.plan) are.rows m rows are.are) tuples;
      }
  nothing_by (Refused why) m are few none cover tuples =
      let rows : are.first.rows ≡ [] = nil_of_length are.first.rows (omega (arith, ap length are.first.are, as-length query.reading read, few)) in
      record {
        none = none;
        records = are.first.are ∙ ap (λ (rs : Table). header ∷ rs) rows;
        cover = cover;
        tuples = no_tuples shape (listed m) (tuples_in f) (none_listed m are.none) tuples;
      }

  file_at : (rows : Rows) (m : GroupsByKey) → AreRowsOf query header (Some read) rows m → IsCoverOf p rows f.preface.cover → (p.from ≡ p.to → 0 < p.size → length (records_of read) ≤ 1) → AreTuplesOf shape (listed m) (tuples_in f)
      → IsFileAt query.plan query.reading header p read f
  file_at rows m are (inl is) few tuples = inl (is.0, read_by rows m are is.1 tuples)
  file_at rows m are (inr is) few tuples = inr (nothing_by rows m are (few is.0 is.1) is.0 is.2 tuples)

-- ---- that a reader takes it

module _ (query : Query) (header : List (List ℕ)) (shape : Shape) (of_shape : IsShapeOf (bound_plan header query.plan) shape) (law : GroupsAreTold) where
  told_by : (rows : Rows) (from : Option (List ℕ)) (m : GroupsByKey) → AreRowsOf query header from rows m → All (IsTold shape) (listed m)
  told_by (Counted many) from m are = law (bound_plan header query.plan) (length header) shape are.rows m of_shape are.accepted are.few are.are
  told_by (Refused why) from m are = subst (All (IsTold shape)) (sym (none_listed m are.none)) (λ k d low. absurd (omega (arith, low)))

-- if a row is refused there are no groups
no_groups : (query : Query) (header : List (List ℕ)) (from : Option (List ℕ)) (rows : Rows) (m : GroupsByKey) → AreRowsOf query header from rows m → 0 < length (listed m) → is_refused rows ≡ true → ⊥
no_groups query header from (Counted many) m are some e = cc e
no_groups query header from (Refused why) m are some e = omega (arith, some, ap length (none_listed m are.none))

-- no bounds have every key
all_in : (columns : ℕ) (keys : Keys) (groups : List MapGroup) → keys ≡ record { low = []; high = [] } → All (λ (g : MapGroup). IsIn columns keys g.key) groups
all_in columns keys groups e = λ k d low. record { from = inl (ap (λ (ks : Keys). ks.low) e); below = inl (ap (λ (ks : Keys). ks.high) e) }

or_false : (b : Bool) → (b || false) ≡ true → b ≡ true
or_false true e = refl
or_false false e = e

refused_in : (p : Place) (rows : Rows) (cover : List Stretch) → IsCoverOf p rows cover → has_refused cover ≡ true → is_refused rows ≡ true
refused_in p rows cover (inl is) e = or_false (is_refused rows) (sym (ap has_refused is.1) ∙ e)
refused_in p rows cover (inr is) e = let bad : false ≡ true = sym (ap has_refused is.2) ∙ e in cc bad

is_read : (query : Query) (header : List (List ℕ)) (from : Option (List ℕ)) (shape : Shape) (pre : Preface) (place : Place) (rows : Rows) (m : GroupsByKey) (groups : List MapGroup) (f : StateFile) → GroupsAreTold → SavedIsRead
    → IsShapeOf (bound_plan header query.plan) shape → AreRowsOf query header from rows m → groups ≡ listed m → IsCoverOf place rows pre.cover → pre.keys ≡ record { low = []; high = [] }
    → IsFront pre → IsFileOf shape pre groups f → IsStateFile shape.columns shape.kinds.now f
is_read query header from shape pre place rows m groups f law saved of_shape are same cover keys front is_file =
    saved shape pre groups f (record {
      is_front = front;
      told = subst (All (IsTold shape)) (sym same) (told_by query header shape of_shape law rows from m are);
      within = all_in shape.columns pre.keys groups keys;
      counted = λ some refused.
          no_groups query header from rows m are (subst (λ (gs : List MapGroup). 0 < length gs) same some) (refused_in place rows pre.cover cover refused);
    }) is_file

-- the front of a part
front_is : (pre : Preface) → AreWords pre.subject.words → length pre.subject.header ≤ 2 ^ 28 → 0 < pre.subject.sources → pre.subject.sources < 2 ^ 32 → IsCover pre.subject.sources pre.cover
    → pre.keys ≡ record { low = []; high = [] } → length (head_bytes pre) ≤ 2 ^ 28 → IsFront pre
front_is pre words header some few cover keys short = record {
  is_head = record {
    is_subject = record { are_words = words; header = header; some = some; few = few };
    is_cover = cover;
    are_keys = record { low = omega (arith, ap (λ (ks : Keys). length ks.low) keys); high = omega (arith, ap (λ (ks : Keys). length ks.high) keys) };
  };
  short = short;
}

whole_is : (query : Query) (s : Subject) (plan : FilePlan) (header : List (List ℕ)) → header_of query.reading s ≡ header → IsPlanOf s plan → plan.plan ≡ query → missing_name header query.plan ≡ None
whole_is query s plan header fields is same = subst (λ (h : List (List ℕ)). missing_name h query.plan ≡ None) fields (subst (λ (q : Query). missing_name (header_of q.reading s) q.plan ≡ None) same is.whole)

pub part_text : (words : List (List ℕ)) (asked : Asked) (query : Query) (bytes read : List ℕ) (p : Part) (part : IsPartRead query (Some read) p) (place : Place) (pre : Preface) (plan : FilePlan) (shape : Shape) (groups : List MapGroup)
    (f : StateFile) (text : List ℕ) → asked_in words ≡ Some asked → AskFor asked.words query → AreRead asked.part.source asked.extent (text_by query bytes) place read → pre.subject.words ≡ asked.words → pre.subject.header ≡ p.header.items
    → pre.subject.sources ≡ asked.part.sources → IsCoverOf place p.rows pre.cover → pre.keys ≡ record { low = []; high = [] } → IsPlanOf pre.subject plan → plan.plan ≡ query → IsShapeOf plan.bound shape → groups ≡ listed p.map
    → GroupsAreTold → SavedIsRead → AreWords pre.subject.words → length pre.subject.header ≤ 2 ^ 28 → asked.part.source < asked.part.sources → asked.part.sources < 2 ^ 32 → IsCover asked.part.sources pre.cover
    → length (head_bytes pre) ≤ 2 ^ 28 → IsFileOf shape pre groups f → text ≡ file_bytes shape.kinds.now f → IsPartText words bytes text
part_text words asked query bytes read p part place pre plan shape groups f text is_asked ask are_read words_are header sources cover keys is same of_shape groups_are law saved fit_words fit_header below few is_cover short is_file is_text =
    let bound = bound_is query (Some read) p part pre.subject plan header is same in
    let shape_is : IsShapeOf (bound_plan part.header query.plan) shape = subst (λ (b : Plan). IsShapeOf b shape) bound of_shape in
    let its : IsCoverOf place p.rows f.preface.cover = subst (λ (pre : Preface). IsCoverOf place p.rows pre.cover) (sym is_file.preface_is) cover in
    let front = front_is pre fit_words fit_header (omega (arith, sources, below)) (omega (arith, sources, few)) (subst (λ (n : ℕ). IsCover n pre.cover) (sym sources) is_cover) keys short in
    let fields : header_of query.reading pre.subject ≡ part.header = ap (λ (l : List ℕ). record_at (records_in query.reading l) 0) header ∙ ap (λ (rs : Table). record_at rs 0) part.one in
    record {
      asked = asked;
      is_asked = is_asked;
      file = f;
      is_part = record {
        query = query;
        ask_for = ask;
        header = part.header;
        whole = whole_is query pre.subject plan part.header fields is same;
        place = place;
        read = read;
        are_read = are_read;
        is_file = file_at query part.header read shape shape_is place f p.rows p.map part.are its (λ none some. one_record asked.part.source asked.extent (text_by query bytes) place read are_read none some)
            (subst (λ (gs : List MapGroup). AreTuplesOf shape gs (tuples_in f)) groups_are is_file.are);
        words_are = ap (λ (pre : Preface). pre.subject.words) is_file.preface_is ∙ words_are;
        header_is = ap (λ (pre : Preface). records_in query.reading pre.subject.header) is_file.preface_is ∙ (ap (records_in query.reading) header ∙ part.one);
        sources_are = ap (λ (pre : Preface). pre.subject.sources) is_file.preface_is ∙ sources;
        keys_are = ap (λ (pre : Preface). pre.keys) is_file.preface_is ∙ keys;
      };
      shape = shape;
      is_shape = shape_is;
      is_file = is_read query part.header (Some read) shape pre place p.rows p.map groups f law saved shape_is part.are groups_are cover keys front is_file;
      is_text = is_text;
    }

-- ---- that it is too long

few_listed : (query : Query) (header : List (List ℕ)) (from : Option (List ℕ)) (rows : Rows) (m : GroupsByKey) → AreRowsOf query header from rows m → length (listed m) ≤ 2 ^ 50
few_listed query header from (Counted many) m are =
    let few = few_groups (bound_plan header query.plan) are.rows m are.are in
    let most = are.few in
    omega (arith, few, most)
few_listed query header from (Refused why) m are = omega (arith, ap length (none_listed m are.none))

-- a head has no room for it
pub no_room : (asked : Asked) (query : Query) (bytes read : List ℕ) (p : Part) (part : IsPartRead query (Some read) p) (place : Place) (words : Words) (text : List ℕ) → AskFor asked.words query
    → AreRead asked.part.source asked.extent (text_by query bytes) place read → words ≡ asked.words → text ≡ p.header.items → HasNoRoom words text p.rows → IsLongPart asked bytes
no_room asked query bytes read p part place words text ask are_read words_are text_is none = record {
  query = query;
  ask_for = ask;
  place = place;
  read = read;
  are_read = are_read;
  text = p.header.items;
  header = part.header;
  header_is = part.one;
  rows = p.rows;
  groups = p.map;
  are = part.are;
  long = inl (subst (λ (w : Words). HasNoRoom w p.header.items p.rows) words_are (subst (λ (t : List ℕ). HasNoRoom words t p.rows) text_is none));
}

-- its head or its foot is too long
pub long_part : (asked : Asked) (query : Query) (bytes read : List ℕ) (p : Part) (part : IsPartRead query (Some read) p) (place : Place) (pre : Preface) (plan : FilePlan) (shape : Shape) → AskFor asked.words query
    → AreRead asked.part.source asked.extent (text_by query bytes) place read → pre.subject.words ≡ asked.words → pre.subject.header ≡ p.header.items → pre.subject.sources ≡ asked.part.sources → IsCoverOf place p.rows pre.cover
    → pre.keys ≡ record { low = []; high = [] } → IsPlanOf pre.subject plan → plan.plan ≡ query → IsShapeOf plan.bound shape → IsShape shape → GroupsAreTold → LongIsKnown → DoNotFit shape pre (listed p.map) → IsLongPart asked bytes
long_part asked query bytes read p part place pre plan shape ask are_read words_are header sources cover keys is same of_shape is_shape law known none =
    let shape_is : IsShapeOf (bound_plan part.header query.plan) shape = subst (λ (b : Plan). IsShapeOf b shape) (bound_is query (Some read) p part pre.subject plan header is same) of_shape in
    let told = told_by query part.header shape shape_is law p.rows (Some read) p.map part.are in
    record {
      query = query;
      ask_for = ask;
      place = place;
      read = read;
      are_read = are_read;
      text = p.header.items;
      header = part.header;
      header_is = part.one;
      rows = p.rows;
      groups = p.map;
      are = part.are;
      long = inr (record {
        preface = pre;
        words_are = words_are;
        header_is = header;
        sources_are = sources;
        cover_is = cover;
        keys_are = keys;
        shape = shape;
        is_shape = shape_is;
        long = known shape pre (listed p.map) is_shape told (few_listed query part.header (Some read) p.rows p.map part.are) none;
      });
    }
