-- Records of which each field is read in another way.
use Rattle.std.proofs.Common.{◌≡◌, ◌+◌, ◌-◌, ◌∙◌, ℕ, true, false, List, [], ◌∷◌, drop, length, map, refl, sym, ap, inl, inr, arith}
use Rattle.std.specs.Prelude.{Bool, ◌==◌, ◌&&◌, if◌then◌else◌, not}
use Rattle.std.proofs.lemmas.Bool.{cases_Bool, eqb-true, false≢true}
use Rattle.std.proofs.lemmas.List.{drop-map, length-map, take-map}
use Rattle.csv.specs.Records.{cut_from}
use Rattle.csv.proofs.RecordFacts.{cut-length}
use Rattle.csv_rows.specs.Readings.{as_read, cleaned, exchanged, is_among, keeps_all, plain, records_as, trimmed_if}
use Rattle.csv_rows.specs.Records.{records_of}
use Rattle.csv_rows.specs.Store.{IsStore, cut_apart, group_from, stored_apart}
use Rattle.csv_rows.specs.declared.cleaning.Reading.{Reading}
use Rattle.csv_rows.proofs.Gaps.{apart-length}
use Rattle.csv_rows.proofs.Groups.{stored-none}

-- the fields of bytes that are changed one by one
cut-map : (f : ℕ → ℕ) (gap start : ℕ) (ends bytes : List ℕ) → cut_apart gap start ends (map f bytes) ≡ map (map f) (cut_apart gap start ends bytes)
unfolding cut_apart
cut-map f gap start [] bytes = refl
cut-map f gap start (end ∷ ends) bytes = rw (drop-map f start bytes, take-map f (end - start) (drop start bytes), cut-map f gap (end + gap) ends bytes) refl

-- the groups of items that are changed one by one
group-map : {A B : Type 0} (f : A → B) (start : ℕ) (ends : List ℕ) (xs : List A) → group_from start ends (map f xs) ≡ map (map f) (group_from start ends xs)
unfolding group_from
group-map f start [] xs = refl
group-map f start (end ∷ ends) xs = rw (drop-map f start xs, take-map f (end - start) (drop start xs), group-map f end ends xs) refl

pub stored-map : (f : ℕ → ℕ) (gap : ℕ) (bytes ends row_ends : List ℕ) → stored_apart gap (map f bytes) ends row_ends ≡ map (map (map f)) (stored_apart gap bytes ends row_ends)
stored-map f gap bytes ends row_ends = ap (group_from 0 row_ends) (cut-map f gap 0 ends bytes) ∙ group-map (map f) 0 row_ends (cut_apart gap 0 ends bytes)

pub store-map : (f : ℕ → ℕ) (gap : ℕ) (bytes ends row_ends : List ℕ) → IsStore gap bytes ends row_ends → IsStore gap (map f bytes) ends row_ends
store-map f gap bytes ends row_ends is = record { fields = rw (length-map bytes f) is.fields; rows = is.rows; some = is.some; few = is.few }

-- with the comma for itself nothing is exchanged
exchanged-none : (c : ℕ) → exchanged 44 c ≡ c
exchanged-none c = elim (cases_Bool (c == 44)) [ inl e ↦ rw e (sym (eqb-true c 44 e)) | inr e ↦ rw e refl ]

map-same : {A : Type 0} (f : A → A) (xs : List A) → ((x : A) → f x ≡ x) → map f xs ≡ xs
map-same f [] h = refl
map-same f (x ∷ xs) h = rw (h x, map-same f xs h) refl

pub comma-kept : (records : List (List (List ℕ))) → map (map (map (exchanged 44))) records ≡ records
comma-kept records = map-same (map (map (exchanged 44))) records (λ one. map-same (map (exchanged 44)) one (λ field. map-same (exchanged 44) field exchanged-none))

map-map : {A B C : Type 0} (f : A → B) (g : B → C) (h : A → C) (xs : List A) → ((x : A) → g (f x) ≡ h x) → map g (map f xs) ≡ map h xs
map-map f g h [] e = refl
map-map f g h (x ∷ xs) e = rw (e x, map-map f g h xs e) refl

pub cleaned-exchanged : (reading : Reading) (records : List (List (List ℕ))) → map (map (cleaned reading)) (map (map (map (exchanged reading.separator))) records) ≡ map (map (as_read reading)) records
cleaned-exchanged reading records =
    map-map (map (map (exchanged reading.separator))) (map (cleaned reading)) (map (as_read reading)) records (λ one. map-map (map (exchanged reading.separator)) (cleaned reading) (as_read reading) one (λ field. refl))

-- a field that is read as it is
kept-field : (nulls field : List ℕ) → (length nulls == 0) ≡ true → (if is_among field nulls then [] else field) ≡ field
kept-field [] [] none = refl
kept-field [] (x ∷ field) none = refl
kept-field (n ∷ nulls) field none = absurd (omega (arith, eqb-true (length (n ∷ nulls)) 0 none))

kept-if : (trim : Bool) (nulls field : List ℕ) → (not trim && (length nulls == 0)) ≡ true → (if is_among (trimmed_if trim field) nulls then [] else trimmed_if trim field) ≡ field
kept-if false nulls field h = kept-field nulls field h
kept-if true nulls field h = absurd (false≢true h)

pub kept-all : (reading : Reading) (records : List (List (List ℕ))) → keeps_all reading ≡ true → map (map (cleaned reading)) records ≡ records
kept-all reading records h = map-same (map (cleaned reading)) records (λ one. map-same (cleaned reading) one (λ field. kept-if reading.trim reading.nulls field h))

-- how many records there are
pub as-length : (reading : Reading) (bytes : List ℕ) → length (records_as reading bytes) ≡ length (records_of bytes)
as-length reading bytes = length-map (records_of bytes) (map (as_read reading))

-- the lists of a piece whose fields were read one by one
pub cleaned-count : (f : List ℕ → List ℕ) (gap : ℕ) (bytes ends texts places : List ℕ) → cut_from 0 places texts ≡ map f (cut_apart gap 0 ends bytes) → length places ≡ length ends
cleaned-count f gap bytes ends texts places is = sym (cut-length 0 places texts) ∙ (ap length is ∙ (length-map (cut_apart gap 0 ends bytes) f ∙ apart-length gap 0 ends bytes))

pub cleaned-stored : (f : List ℕ → List ℕ) (gap : ℕ) (bytes ends row_ends texts places : List ℕ) → cut_from 0 places texts ≡ map f (cut_apart gap 0 ends bytes)
    → stored_apart 0 texts places row_ends ≡ map (map f) (stored_apart gap bytes ends row_ends)
cleaned-stored f gap bytes ends row_ends texts places is = stored-none texts places row_ends ∙ (ap (group_from 0 row_ends) is ∙ group-map f 0 row_ends (cut_apart gap 0 ends bytes))

pub cut-none : cut_from 0 [] [] ≡ []
unfolding cut_from
cut-none = refl

pub bytes-kept : (separator : ℕ) (bytes : List ℕ) → separator ≡ 44 → bytes ≡ map (exchanged separator) bytes
bytes-kept separator bytes is = rw is (sym (map-same (exchanged 44) bytes exchanged-none))

-- read plainly, they are the records of the bytes
pub as-plain : (bytes : List ℕ) → records_as plain bytes ≡ records_of bytes
as-plain bytes = sym (cleaned-exchanged plain (records_of bytes)) ∙ (ap (map (map (cleaned plain))) (comma-kept (records_of bytes)) ∙ kept-all plain (records_of bytes) refl)
