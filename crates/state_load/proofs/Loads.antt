-- Files one after another: what is added so far.
use Rattle.std.proofs.Common.{◌≡◌, ◌<◌, ◌≤◌, ◌+◌, ◌++◌, ◌∙◌, ℕ, List, [], ◌∷◌, ap, append_assoc, append-nil, arith, length, length-append, refl, subst, sym}
use Rattle.std.proofs.lemmas.Grind.{flat_map-append}
use Rattle.std.proofs.lemmas.List.Elements.{All-head, All-nil, All-push, All-tail}
use Rattle.std.proofs.lemmas.List.Sums.{fold_push}
use Rattle.partial_agg.specs.Groups.{GroupsByKey}
use Rattle.state_body.specs.Body.{body_bytes}
use Rattle.state_front.specs.Front.{front_bytes, name_bytes, version_bytes}
use Rattle.state_file.specs.Section.{section}
use Rattle.state_head.specs.Head.{Preface, Subject, head_bytes}
use Rattle.state_head.specs.Words.{Keys}
use Rattle.state_head.specs.declared.cover.Stretch.{Stretch}
use Rattle.state_load.specs.Faults.{AreNoParts, IsNoPart}
use Rattle.state_load.specs.Loading.{AreAdded, AreParts, IsPart, files_bytes, stretches_of, sum_of}
use Rattle.state_load.specs.declared.loading.LoadFault.{LoadFault}
use Rattle.state_whole.specs.Adding.{sum_with}
use Rattle.state_whole.specs.Files.{StateFile, file_bytes, tuples_in}
use Rattle.state_whole.specs.Sums.{AreSummed}
use Rattle.state_whole.specs.declared.adding.Shape.{Shape}
use Rattle.state_whole.specs.declared.files.Sum.{Sum}

-- ---- one file more

bytes_more : (shape : Shape) (files : List StateFile) (f : StateFile) → files_bytes shape (files ++ f ∷ []) ≡ files_bytes shape files ++ file_bytes shape.kinds.now f
bytes_more shape files f = flat_map-append (file_bytes shape.kinds.now) files (f ∷ []) ∙ ap (λ (bs : List ℕ). files_bytes shape files ++ bs) (append-nil (file_bytes shape.kinds.now f))

stretches_more : (files : List StateFile) (f : StateFile) → stretches_of (files ++ f ∷ []) ≡ stretches_of files ++ f.preface.cover
stretches_more files f = flat_map-append {X = StateFile} {A = Stretch} (λ f. f.preface.cover) files (f ∷ []) ∙ ap (λ (ss : List Stretch). stretches_of files ++ ss) (append-nil f.preface.cover)

sum_more : (shape : Shape) (m : GroupsByKey) (files : List StateFile) (f : StateFile) → sum_of shape m (files ++ f ∷ []) ≡ sum_with shape (sum_of shape m files) (tuples_in f)
sum_more shape m files f = fold_push (λ (so_far : GroupsByKey) (f : StateFile). sum_with shape so_far (tuples_in f)) m files f

summed_more : (shape : Shape) (m : GroupsByKey) (cover : List Stretch) (files : List StateFile) (f : StateFile) (sum : Sum) → AreSummed (sum_with shape (sum_of shape m files) (tuples_in f)) ((cover ++ stretches_of files) ++ f.preface.cover) sum
    → AreSummed (sum_of shape m (files ++ f ∷ [])) (cover ++ stretches_of (files ++ f ∷ [])) sum
summed_more shape m cover files f sum is =
    let stretches : (cover ++ stretches_of files) ++ f.preface.cover ≡ cover ++ stretches_of (files ++ f ∷ []) = append_assoc cover (stretches_of files) f.preface.cover ∙ ap (λ (ss : List Stretch). cover ++ ss) (sym (stretches_more files f)) in
    subst (λ (x : GroupsByKey). AreSummed x (cover ++ stretches_of (files ++ f ∷ [])) sum) (sym (sum_more shape m files f)) (subst (λ (ss : List Stretch). AreSummed (sum_with shape (sum_of shape m files) (tuples_in f)) ss sum) stretches is)

none_summed : (m : GroupsByKey) (cover : List Stretch) (sum : Sum) → AreSummed m cover sum → AreSummed m (cover ++ []) sum
none_summed m cover sum is = subst (λ (ss : List Stretch). AreSummed m ss sum) (sym (append-nil cover)) is

-- ---- the bytes of a file

front_some : (a b c : List ℕ) → 0 < length a → 0 < length ((a ++ b) ++ c)
front_some a b c some = omega (arith, some, length-append (a ++ b) c, length-append a b)

name_some : 0 < length name_bytes
name_some = omega arith

front_long : (p : Preface) (rest : List ℕ) → 0 < length (front_bytes p ++ rest)
unfolding front_bytes
front_long p rest = front_some name_bytes (version_bytes ++ section (head_bytes p)) rest name_some

-- a file has bytes
pub file_some : (shape : Shape) (f : StateFile) → 0 < length (file_bytes shape.kinds.now f)
unfolding file_bytes
file_some shape f = front_long f.preface (body_bytes shape.kinds.now (length (front_bytes f.preface)) f.blocks)

-- a file is its front, and what comes after it
pub file_is : (shape : Shape) (f : StateFile) (rest : List ℕ) → file_bytes shape.kinds.now f ++ rest ≡ front_bytes f.preface ++ (body_bytes shape.kinds.now (length (front_bytes f.preface)) f.blocks ++ rest)
unfolding file_bytes
file_is shape f rest = append_assoc (front_bytes f.preface) (body_bytes shape.kinds.now (length (front_bytes f.preface)) f.blocks) rest

-- what comes after a front is shorter
pub after_front : (p : Preface) (bytes rest body after : List ℕ) → bytes ≡ front_bytes p ++ rest → rest ≡ body ++ after → length after < length bytes
after_front p bytes rest body after e f =
    let some = front_long p [] in
    omega (arith, some, ap length (append-nil (front_bytes p)), ap length e, ap length f, length-append (front_bytes p) rest, length-append body after)

-- ---- so far

-- these are some files, and these bytes are left
pub record AreFound (shape : Shape) (subject : Subject) (keys : Keys) (bytes rest : List ℕ) (m : GroupsByKey) (cover : List Stretch) (sum : Sum) (at : ℕ) : Type 0 where
  pub files : List StateFile
  pub are : AreParts shape subject keys files
  pub is : bytes ≡ files_bytes shape files ++ rest
  pub many : length files ≡ at
  pub sum_is : AreSummed (sum_of shape m files) (cover ++ stretches_of files) sum

-- of these files some are added, and these bytes are left of all
pub record AreTaken (shape : Shape) (subject : Subject) (keys : Keys) (all : List StateFile) (rest : List ℕ) (m : GroupsByKey) (cover : List Stretch) (sum : Sum) (at : ℕ) : Type 0 where
  pub front : List StateFile
  pub tail : List StateFile
  pub is : all ≡ front ++ tail
  pub each : AreParts shape subject keys tail
  pub left : rest ≡ files_bytes shape tail
  pub many : length front ≡ at
  pub sum_is : AreSummed (sum_of shape m front) (cover ++ stretches_of front) sum

pub record IsLoadedTo (shape : Shape) (subject : Subject) (keys : Keys) (bytes rest : List ℕ) (old sum : Sum) (at : ℕ) : Type 0 where
  pub found : (m : GroupsByKey) (cover : List Stretch) → AreSummed m cover old → AreFound shape subject keys bytes rest m cover sum at
  pub taken : (m : GroupsByKey) (cover : List Stretch) (all : List StateFile) → AreSummed m cover old → AreParts shape subject keys all → bytes ≡ files_bytes shape all → AreTaken shape subject keys all rest m cover sum at
  pub room : at + length rest ≤ length bytes
  pub kept : sum.kept ≡ old.kept

pub none_loaded : (shape : Shape) (subject : Subject) (keys : Keys) (bytes : List ℕ) (sum : Sum) → IsLoadedTo shape subject keys bytes bytes sum sum 0
none_loaded shape subject keys bytes sum = record {
  found = λ m cover is. record { files = []; are = All-nil (IsPart shape subject keys); is = refl; many = refl; sum_is = none_summed m cover sum is };
  taken = λ m cover all is parts e. record { front = []; tail = all; is = refl; each = parts; left = e; many = refl; sum_is = none_summed m cover sum is };
  room = omega arith;
  kept = refl;
}

-- what is left of the files begins with one, if there are bytes left
record BeginsWith (shape : Shape) (tail : List StateFile) (rest : List ℕ) : Type 0 where
  pub f : StateFile
  pub later : List StateFile
  pub is : tail ≡ f ∷ later
  pub begins : rest ≡ file_bytes shape.kinds.now f ++ files_bytes shape later

begins_with : (shape : Shape) (tail : List StateFile) (rest : List ℕ) → rest ≡ files_bytes shape tail → 0 < length rest → BeginsWith shape tail rest
begins_with shape [] rest e some = absurd (omega (arith, some, ap length e))
begins_with shape (f ∷ later) rest e some = record { f = f; later = later; is = refl; begins = e }

no_files_left : (shape : Shape) (tail : List StateFile) (rest : List ℕ) → rest ≡ files_bytes shape tail → length rest ≡ 0 → tail ≡ []
no_files_left shape [] rest e none = refl
no_files_left shape (f ∷ later) rest e none =
    let some = file_some shape f in
    absurd (omega (arith, some, none, ap length e, length-append (file_bytes shape.kinds.now f) (files_bytes shape later)))

no_bytes : (bs : List ℕ) → length bs ≡ 0 → bs ≡ []
no_bytes [] e = refl
no_bytes (b ∷ bs) e = absurd (omega (arith, e))

pub one_loaded : (shape : Shape) (subject : Subject) (keys : Keys) (bytes rest after : List ℕ) (old sum next : Sum) (at : ℕ) → IsLoadedTo shape subject keys bytes rest old sum at → 0 < length rest → length after < length rest → next.kept ≡ sum.kept
    → ((m : GroupsByKey) (cover : List Stretch) → AreSummed m cover sum → (f : StateFile) × IsPart shape subject keys f × (rest ≡ file_bytes shape.kinds.now f ++ after) × AreSummed (sum_with shape m (tuples_in f)) (cover ++ f.preface.cover) next)
    → ((m : GroupsByKey) (cover : List Stretch) (f : StateFile) (r : List ℕ) → AreSummed m cover sum → IsPart shape subject keys f → rest ≡ file_bytes shape.kinds.now f ++ r
    → (after ≡ r) × AreSummed (sum_with shape m (tuples_in f)) (cover ++ f.preface.cover) next)
    → IsLoadedTo shape subject keys bytes after old next (at + 1)
one_loaded shape subject keys bytes rest after old sum next at is some shorter kept added written =
    let room = is.room in
    record { found = find; taken = take_one; room = omega (arith, room, shorter); kept = kept ∙ is.kept }
  where
    find : (m : GroupsByKey) (cover : List Stretch) → AreSummed m cover old → AreFound shape subject keys bytes after m cover next (at + 1)
    find m cover summed =
        let a = is.found m cover summed in
        let b = added (sum_of shape m a.files) (cover ++ stretches_of a.files) a.sum_is in
        let many = a.many in
        record {
          files = a.files ++ b.0 ∷ [];
          are = All-push (IsPart shape subject keys) a.files b.0 a.are b.1;
          is = a.is ∙ ap (λ (bs : List ℕ). files_bytes shape a.files ++ bs) b.2 ∙ sym (append_assoc (files_bytes shape a.files) (file_bytes shape.kinds.now b.0) after) ∙ ap (λ (bs : List ℕ). bs ++ after) (sym (bytes_more shape a.files b.0));
          many = omega (arith, many, length-append a.files (b.0 ∷ []));
          sum_is = summed_more shape m cover a.files b.0 next b.3;
        }

    take_one : (m : GroupsByKey) (cover : List Stretch) (all : List StateFile) → AreSummed m cover old → AreParts shape subject keys all → bytes ≡ files_bytes shape all → AreTaken shape subject keys all after m cover next (at + 1)
    take_one m cover all summed parts e =
        let t = is.taken m cover all summed parts e in
        let b = begins_with shape t.tail rest t.left some in
        let each = subst (λ (fs : List StateFile). AreParts shape subject keys fs) b.is t.each in
        let did = written (sum_of shape m t.front) (cover ++ stretches_of t.front) b.f (files_bytes shape b.later) t.sum_is (All-head (IsPart shape subject keys) b.f b.later each) b.begins in
        let many = t.many in
        record {
          front = t.front ++ b.f ∷ [];
          tail = b.later;
          is = t.is ∙ ap (λ (fs : List StateFile). t.front ++ fs) b.is ∙ sym (append_assoc t.front (b.f ∷ []) b.later);
          each = All-tail (IsPart shape subject keys) b.f b.later each;
          left = did.0;
          many = omega (arith, many, length-append t.front (b.f ∷ []));
          sum_is = summed_more shape m cover t.front b.f next did.1;
        }

-- ---- at the end

pub all_added : (shape : Shape) (subject : Subject) (keys : Keys) (bytes rest : List ℕ) (old sum : Sum) (at count : ℕ) → IsLoadedTo shape subject keys bytes rest old sum at → length rest ≡ 0 → at ≡ count
    → (m : GroupsByKey) (cover : List Stretch) → AreSummed m cover old → AreAdded shape subject keys bytes m cover sum count
all_added shape subject keys bytes rest old sum at count is none same m cover summed =
    let a = is.found m cover summed in
    record {
      files = a.files;
      are = a.are;
      is = a.is ∙ ap (λ (bs : List ℕ). files_bytes shape a.files ++ bs) (no_bytes rest none) ∙ append-nil (files_bytes shape a.files);
      many = a.many ∙ same;
      sum_is = a.sum_is;
    }

pub all_taken : (shape : Shape) (subject : Subject) (keys : Keys) (bytes rest : List ℕ) (old sum : Sum) (at count : ℕ) → IsLoadedTo shape subject keys bytes rest old sum at → length rest ≡ 0 → at ≡ count
    → (m : GroupsByKey) (cover : List Stretch) (all : List StateFile) → AreSummed m cover old → AreParts shape subject keys all → bytes ≡ files_bytes shape all → (count ≡ length all) × AreSummed (sum_of shape m all) (cover ++ stretches_of all) sum
all_taken shape subject keys bytes rest old sum at count is none same m cover all summed parts e =
    let t = is.taken m cover all summed parts e in
    let whole : all ≡ t.front = t.is ∙ ap (λ (fs : List StateFile). t.front ++ fs) (no_files_left shape t.tail rest t.left none) ∙ append-nil t.front in
    (sym same ∙ sym t.many ∙ ap length (sym whole), subst (λ (fs : List StateFile). AreSummed (sum_of shape m fs) (cover ++ stretches_of fs) sum) (sym whole) t.sum_is)

pub not_added : (shape : Shape) (subject : Subject) (keys : Keys) (bytes rest : List ℕ) (old sum : Sum) (at : ℕ) (fault : LoadFault) → IsLoadedTo shape subject keys bytes rest old sum at → fault.file ≡ at + 1
    → ((m : GroupsByKey) (cover : List Stretch) → AreSummed m cover sum → IsNoPart shape subject keys m rest fault.why) → (m : GroupsByKey) (cover : List Stretch) → AreSummed m cover old → AreNoParts shape subject keys m bytes fault
not_added shape subject keys bytes rest old sum at fault is number none m cover summed =
    let a = is.found m cover summed in
    record {
      files = a.files;
      are = a.are;
      number = number ∙ ap (λ (n : ℕ). n + 1) (sym a.many);
      rest = rest;
      is = a.is;
      none = none (sum_of shape m a.files) (cover ++ stretches_of a.files) a.sum_is;
    }
