-- Files that were added, and those after them.
use Rattle.std.proofs.Common.{◌≡◌, ◌+◌, ◌++◌, ◌∙◌, inl, inr, Err, IfErr, IfOk, Ok, Result, ℕ, List, [], ◌∷◌, Option, ap, append_assoc, append-nil, arith, drop, length, length-append, refl, subst, sym}
use lib.Seq.{drop_at}
use Rattle.std.proofs.KnownBytes.{Consumes-nil, Consumes-trans}
use Rattle.std.proofs.lemmas.Grind.{flat_map-append}
use Rattle.std.proofs.lemmas.List.Elements.{All-append, All-cons, All-nil}
use Rattle.std.proofs.lemmas.List.Sums.{fold-append}
use Rattle.std.specs.Io.KnownBytes.{Consumes}
use Rattle.partial_agg.specs.Groups.{GroupsByKey}
use Rattle.state_head.specs.Head.{Subject}
use Rattle.state_head.specs.Words.{Keys}
use Rattle.state_head.specs.declared.cover.Stretch.{Stretch}
use Rattle.state_load.specs.Faults.{AreNoParts, IsNoPart}
use Rattle.state_load.specs.Loading.{AreAdded, IsPart, files_bytes, stretches_of, sum_of}
use Rattle.state_load.specs.declared.loading.LoadCause.{LoadCause}
use Rattle.state_load.specs.declared.loading.LoadFault.{LoadFault}
use Rattle.state_source.specs.Adding.{AreFound, IsFaultOf, IsLast, IsNext, IsShifted}
use Rattle.state_source.specs.Reading.{Held, IsNoLoad, OfLeft}
use Rattle.state_source.specs.declared.adding.SourceFault.{SourceFault}
use Rattle.state_source.specs.declared.adding.SourceFault.TheVariants as fault
use Rattle.state_source.proofs.Rests.{of_any, of_as, of_end, of_more}
use Rattle.state_whole.specs.Adding.{sum_with}
use Rattle.state_whole.specs.Files.{StateFile, file_bytes, tuples_in}
use Rattle.state_whole.specs.Sums.{AreSummed}
use Rattle.state_whole.specs.declared.adding.Shape.{Shape}
use Rattle.state_whole.specs.declared.files.Sum.{Sum}

-- ---- files, and files after them

bytes_join : (shape : Shape) (fs gs : List StateFile) → files_bytes shape (fs ++ gs) ≡ files_bytes shape fs ++ files_bytes shape gs
bytes_join shape fs gs = flat_map-append (file_bytes shape.kinds.now) fs gs

stretches_join : (fs gs : List StateFile) → stretches_of (fs ++ gs) ≡ stretches_of fs ++ stretches_of gs
stretches_join fs gs = flat_map-append {X = StateFile} {A = Stretch} (λ f. f.preface.cover) fs gs

pub sum_join : (shape : Shape) (m : GroupsByKey) (fs gs : List StateFile) → sum_of shape m (fs ++ gs) ≡ sum_of shape (sum_of shape m fs) gs
sum_join shape m fs gs = fold-append (λ (so_far : GroupsByKey) (f : StateFile). sum_with shape so_far (tuples_in f)) m fs gs

summed_join : (shape : Shape) (m : GroupsByKey) (cover : List Stretch) (fs gs : List StateFile) (sum : Sum) → AreSummed (sum_of shape (sum_of shape m fs) gs) ((cover ++ stretches_of fs) ++ stretches_of gs) sum
    → AreSummed (sum_of shape m (fs ++ gs)) (cover ++ stretches_of (fs ++ gs)) sum
summed_join shape m cover fs gs sum is =
    let stretches : (cover ++ stretches_of fs) ++ stretches_of gs ≡ cover ++ stretches_of (fs ++ gs) = append_assoc cover (stretches_of fs) (stretches_of gs) ∙ ap (λ (ss : List Stretch). cover ++ ss) (sym (stretches_join fs gs)) in
    subst (λ (x : GroupsByKey). AreSummed x (cover ++ stretches_of (fs ++ gs)) sum) (sym (sum_join shape m fs gs)) (subst (λ (ss : List Stretch). AreSummed (sum_of shape (sum_of shape m fs) gs) ss sum) stretches is)

-- so bytes that begin with files, of which the rest begins with files, begin with all of them
is_join : (shape : Shape) (fs gs : List StateFile) (bytes middle rest : List ℕ) → bytes ≡ files_bytes shape fs ++ middle → middle ≡ files_bytes shape gs ++ rest → bytes ≡ files_bytes shape (fs ++ gs) ++ rest
is_join shape fs gs bytes middle rest first second =
    first ∙ ap (λ (bs : List ℕ). files_bytes shape fs ++ bs) second ∙ sym (append_assoc (files_bytes shape fs) (files_bytes shape gs) rest) ∙ ap (λ (bs : List ℕ). bs ++ rest) (sym (bytes_join shape fs gs))

found_join : (shape : Shape) (subject : Subject) (keys : Keys) (bytes middle rest : List ℕ) (m : GroupsByKey) (cover : List Stretch) (one two : Sum) (n k : ℕ) (a : AreFound shape subject keys bytes middle m cover one n)
    → AreFound shape subject keys middle rest (sum_of shape m a.files) (cover ++ stretches_of a.files) two k → AreFound shape subject keys bytes rest m cover two (n + k)
found_join shape subject keys bytes middle rest m cover one two n k a b =
    let a_many = a.many in
    let b_many = b.many in
    record {
      files = a.files ++ b.files;
      are = All-append (IsPart shape subject keys) a.files b.files a.are b.are;
      is = is_join shape a.files b.files bytes middle rest a.is b.is;
      many = omega (arith, a_many, b_many, length-append a.files b.files);
      sum_is = summed_join shape m cover a.files b.files two b.sum_is;
    }

-- ---- bytes that come after

abbrev found_grow : (shape : Shape) (subject : Subject) (keys : Keys) (bytes rest more : List ℕ) (m : GroupsByKey) (cover : List Stretch) (sum : Sum) (n : ℕ) → AreFound shape subject keys bytes rest m cover sum n → AreFound shape subject keys (bytes ++ more) (rest ++ more) m cover sum n
found_grow shape subject keys bytes rest more m cover sum n a = record {
  files = a.files;
  are = a.are;
  is = ap (λ (bs : List ℕ). bs ++ more) a.is ∙ append_assoc (files_bytes shape a.files) rest more;
  many = a.many;
  sum_is = a.sum_is;
}

found_none : (shape : Shape) (subject : Subject) (keys : Keys) (bytes : List ℕ) (m : GroupsByKey) (cover : List Stretch) (sum : Sum) → AreSummed m cover sum → AreFound shape subject keys bytes bytes m cover sum 0
found_none shape subject keys bytes m cover sum is = record {
  files = [];
  are = All-nil (IsPart shape subject keys);
  is = refl;
  many = refl;
  sum_is = subst (λ (ss : List Stretch). AreSummed m ss sum) (sym (append-nil cover)) is;
}

-- one file
pub found_one : (shape : Shape) (subject : Subject) (keys : Keys) (text rest : List ℕ) (m : GroupsByKey) (cover : List Stretch) (sum : Sum) (f : StateFile) → IsPart shape subject keys f → text ≡ file_bytes shape.kinds.now f ++ rest
    → AreSummed (sum_with shape m (tuples_in f)) (cover ++ f.preface.cover) sum → AreFound shape subject keys text rest m cover sum 1
found_one shape subject keys text rest m cover sum f part is summed = record {
  files = f ∷ [];
  are = All-cons (IsPart shape subject keys) f [] part (All-nil (IsPart shape subject keys));
  is = is ∙ ap (λ (bs : List ℕ). bs ++ rest) (sym (append-nil (file_bytes shape.kinds.now f)));
  many = refl;
  sum_is = subst (λ (ss : List Stretch). AreSummed (sum_with shape m (tuples_in f)) (cover ++ ss) sum) (sym (append-nil f.preface.cover)) summed;
}

-- what was skipped is the file
pub after_skip : (front rest before after : List ℕ) (count : ℕ) → before ≡ front ++ rest → count + length rest ≡ length before → after ≡ drop count before → rest ≡ after
after_skip front rest before after count is long dropped =
    let many : count ≡ length front = omega (arith, long, ap length is, length-append front rest) in
    sym (dropped ∙ ap (λ (n : ℕ). drop n before) many ∙ ap (drop (length front)) is ∙ drop_at front rest (length front) refl)

-- ---- all of them

found_all : (shape : Shape) (subject : Subject) (keys : Keys) (bytes : List ℕ) (m : GroupsByKey) (cover : List Stretch) (sum : Sum) (n : ℕ) → AreAdded shape subject keys bytes m cover sum n → AreFound shape subject keys bytes [] m cover sum n
found_all shape subject keys bytes m cover sum n a = record { files = a.files; are = a.are; is = a.is ∙ sym (append-nil (files_bytes shape a.files)); many = a.many; sum_is = a.sum_is }

all_found : (shape : Shape) (subject : Subject) (keys : Keys) (bytes : List ℕ) (m : GroupsByKey) (cover : List Stretch) (sum : Sum) (n : ℕ) → AreFound shape subject keys bytes [] m cover sum n → AreAdded shape subject keys bytes m cover sum n
all_found shape subject keys bytes m cover sum n a = record { files = a.files; are = a.are; is = a.is ∙ append-nil (files_bytes shape a.files); many = a.many; sum_is = a.sum_is }

-- ---- why one of them is none

pub first_wrong : (shape : Shape) (subject : Subject) (keys : Keys) (m : GroupsByKey) (bytes : List ℕ) (why : LoadCause) → IsNoPart shape subject keys m bytes why → AreNoParts shape subject keys m bytes (record { file = 1; why = why })
first_wrong shape subject keys m bytes why none = record { files = []; are = All-nil (IsPart shape subject keys); number = refl; rest = bytes; is = refl; none = none }

no_parts_after : (shape : Shape) (subject : Subject) (keys : Keys) (bytes rest : List ℕ) (m : GroupsByKey) (cover : List Stretch) (sum : Sum) (n : ℕ) (at : LoadFault) (a : AreFound shape subject keys bytes rest m cover sum n)
    → AreNoParts shape subject keys (sum_of shape m a.files) rest at → AreNoParts shape subject keys m bytes (record { file = n + at.file; why = at.why })
no_parts_after shape subject keys bytes rest m cover sum n at a none =
    let many = a.many in
    let number = none.number in
    record {
      files = a.files ++ none.files;
      are = All-append (IsPart shape subject keys) a.files none.files a.are none.are;
      number = omega (arith, many, number, length-append a.files none.files);
      rest = none.rest;
      is = is_join shape a.files none.files bytes rest none.rest a.is none.is;
      none = subst (λ (x : GroupsByKey). IsNoPart shape subject keys x none.rest at.why) (sym (sum_join shape m a.files none.files)) none.none;
    }

fault_after : (shape : Shape) (subject : Subject) (keys : Keys) (bytes rest : List ℕ) (m : GroupsByKey) (cover : List Stretch) (sum : Sum) (n : ℕ) (why shifted : SourceFault) (a : AreFound shape subject keys bytes rest m cover sum n)
    → IsFaultOf shape subject keys (sum_of shape m a.files) rest why → IsShifted n why shifted → IsFaultOf shape subject keys m bytes shifted
fault_after shape subject keys bytes rest m cover sum n fault.ReadFault shifted a is e = subst (IsFaultOf shape subject keys m bytes) (sym e) tt
fault_after shape subject keys bytes rest m cover sum n fault.Memory shifted a is e = subst (IsFaultOf shape subject keys m bytes) (sym e) tt
fault_after shape subject keys bytes rest m cover sum n (fault.Load at) shifted a is (inl e) = subst (IsFaultOf shape subject keys m bytes) (sym e) tt
fault_after shape subject keys bytes rest m cover sum n (fault.Load at) shifted a is (inr e) = subst (IsFaultOf shape subject keys m bytes) (sym e) (no_parts_after shape subject keys bytes rest m cover sum n at a is)

-- ---- so far

-- these were read after the first bytes of a source; this many files of them all were added, and these bytes are left
pub record IsReadTo (shape : Shape) (subject : Subject) (keys : Keys) (was left : Option (List ℕ)) (first held : List ℕ) (old sum : Sum) (count : ℕ) : Type 0 where
  pub more : List ℕ
  pub reads : Consumes was left more
  pub found : (m : GroupsByKey) (cover : List Stretch) → AreSummed m cover old → AreFound shape subject keys (first ++ more) held m cover sum count

pub none_read : (shape : Shape) (subject : Subject) (keys : Keys) (left : Option (List ℕ)) (first held : List ℕ) (sum : Sum) → held ≡ first → IsReadTo shape subject keys left left first held sum sum 0
none_read shape subject keys left first held sum same = record {
  more = [];
  reads = Consumes-nil left;
  found = λ m cover is. subst (λ (bs : List ℕ). AreFound shape subject keys bs held m cover sum 0) (same ∙ sym (append-nil first)) (found_none shape subject keys held m cover sum is);
}

pub one_read : (shape : Shape) (subject : Subject) (keys : Keys) (was left after : Option (List ℕ)) (first : List ℕ) (held now : Held) (old sum next : Sum) (count : ℕ) → IsReadTo shape subject keys was left first held.bytes old sum count
    → IsNext shape subject keys left after held now sum next → IsReadTo shape subject keys was after first now.bytes old next (count + 1)
one_read shape subject keys was left after first held now old sum next count is one = record {
  more = is.more ++ one.reads.0;
  reads = Consumes-trans was left after is.more one.reads.0 is.reads one.reads.1;
  found = λ m cover summed.
      let a = is.found m cover summed in
      let grown = found_grow shape subject keys (first ++ is.more) held.bytes one.reads.0 m cover sum count a in
      let found = subst (λ (bs : List ℕ). AreFound shape subject keys bs now.bytes (sum_of shape m a.files) (cover ++ stretches_of a.files) next 1) one.reads.2 (one.added (sum_of shape m a.files) (cover ++ stretches_of a.files) a.sum_is) in
      subst (λ (bs : List ℕ). AreFound shape subject keys bs now.bytes m cover next (count + 1)) (append_assoc first is.more one.reads.0)
      (found_join shape subject keys ((first ++ is.more) ++ one.reads.0) (held.bytes ++ one.reads.0) now.bytes m cover sum next count 1 grown found);
}

-- ---- at the end

-- all was read, and the rest are files
all_read : (shape : Shape) (subject : Subject) (keys : Keys) (was left after : Option (List ℕ)) (first : List ℕ) (held now : Held) (old sum next last : Sum) (count more : ℕ) (is : IsReadTo shape subject keys was left first held.bytes old sum count)
    → IsLast left after held now sum next → (m : GroupsByKey) (cover : List Stretch) (summed : AreSummed m cover old)
    → AreAdded shape subject keys now.bytes (sum_of shape m (is.found m cover summed).files) (cover ++ stretches_of (is.found m cover summed).files) last more
    → OfLeft was (λ rest. AreAdded shape subject keys (first ++ rest) m cover last (count + more))
all_read shape subject keys was left after first held now old sum next last count more is end m cover summed rest =
    let a = is.found m cover summed in
    let n = sum_of shape m a.files in
    let ss = cover ++ stretches_of a.files in
    let found = found_all shape subject keys now.bytes n ss last more rest in
    let grown = found_grow shape subject keys (first ++ is.more) held.bytes end.reads.0 m cover sum count a in
    let tail = subst (λ (bs : List ℕ). AreFound shape subject keys bs [] n ss last more) end.reads.2 found in
    let all = found_join shape subject keys ((first ++ is.more) ++ end.reads.0) (held.bytes ++ end.reads.0) [] m cover sum last count more grown tail in
    let whole = subst (λ (bs : List ℕ). AreFound shape subject keys bs [] m cover last (count + more)) (append_assoc first is.more end.reads.0) all in
    of_end was after (is.more ++ end.reads.0) (λ rest. AreAdded shape subject keys (first ++ rest) m cover last (count + more)) (Consumes-trans was left after is.more end.reads.0 is.reads end.reads.1) end.end
    (all_found shape subject keys (first ++ (is.more ++ end.reads.0)) m cover last (count + more) whole)

-- or one of them is none
rest_wrong : (shape : Shape) (subject : Subject) (keys : Keys) (was left after : Option (List ℕ)) (first : List ℕ) (held now : Held) (old sum next : Sum) (count : ℕ) (why shifted : SourceFault) (is : IsReadTo shape subject keys was left first held.bytes old sum count)
    → IsLast left after held now sum next → (m : GroupsByKey) (cover : List Stretch) (summed : AreSummed m cover old)
    → IsFaultOf shape subject keys (sum_of shape m (is.found m cover summed).files) now.bytes why → IsShifted count why shifted
    → OfLeft was (λ rest. IsFaultOf shape subject keys m (first ++ rest) shifted)
rest_wrong shape subject keys was left after first held now old sum next count why shifted is end m cover summed wrong by =
    let a = is.found m cover summed in
    let n = sum_of shape m a.files in
    let grown = found_grow shape subject keys (first ++ is.more) held.bytes end.reads.0 m cover sum count a in
    let tail = subst (λ (bs : List ℕ). IsFaultOf shape subject keys n bs why) end.reads.2 wrong in
    let all = fault_after shape subject keys ((first ++ is.more) ++ end.reads.0) (held.bytes ++ end.reads.0) m cover sum count why shifted grown tail by in
    of_end was after (is.more ++ end.reads.0) (λ rest. IsFaultOf shape subject keys m (first ++ rest) shifted) (Consumes-trans was left after is.more end.reads.0 is.reads end.reads.1) end.end
    (subst (λ (bs : List ℕ). IsFaultOf shape subject keys m bs shifted) (append_assoc first is.more end.reads.0) all)

-- the sum of the files so far, once all was read
summed_last : (shape : Shape) (subject : Subject) (keys : Keys) (was left after : Option (List ℕ)) (first : List ℕ) (held now : Held) (old sum next : Sum) (count : ℕ) (is : IsReadTo shape subject keys was left first held.bytes old sum count)
    → IsLast left after held now sum next → (m : GroupsByKey) (cover : List Stretch) (summed : AreSummed m cover old)
    → AreSummed (sum_of shape m (is.found m cover summed).files) (cover ++ stretches_of (is.found m cover summed).files) next
summed_last shape subject keys was left after first held now old sum next count is end m cover summed =
    let a = is.found m cover summed in
    subst (λ (s : Sum). AreSummed (sum_of shape m a.files) (cover ++ stretches_of a.files) s) (sym end.same) a.sum_is

pub rest_added : (shape : Shape) (subject : Subject) (keys : Keys) (was left after : Option (List ℕ)) (first : List ℕ) (held now : Held) (old sum next last : Sum) (count : ℕ) (taken : List ℕ) (result : Result ℕ SourceFault) (is : IsReadTo shape subject keys was left first held.bytes old sum count)
    → IsLast left after held now sum next → taken ≡ now.bytes
    → ((n : GroupsByKey) (ss : List Stretch) → AreSummed n ss next → IfOk result (λ k. (more : ℕ) × AreAdded shape subject keys taken n ss last more × (k ≡ count + more)))
    → (m : GroupsByKey) (cover : List Stretch) → AreSummed m cover old → IfOk result (λ k. OfLeft was (λ rest. AreAdded shape subject keys (first ++ rest) m cover last k))
rest_added shape subject keys was left after first held now old sum next last count taken (Err why) is end same added m cover summed = tt
rest_added shape subject keys was left after first held now old sum next last count taken (Ok k) is end same added m cover summed =
    let a = is.found m cover summed in
    let n = sum_of shape m a.files in
    let ss = cover ++ stretches_of a.files in
    let did = added n ss (summed_last shape subject keys was left after first held now old sum next count is end m cover summed) in
    subst (λ (j : ℕ). OfLeft was (λ rest. AreAdded shape subject keys (first ++ rest) m cover last j)) (sym did.2)
    (all_read shape subject keys was left after first held now old sum next last count did.0 is end m cover summed (subst (λ (bs : List ℕ). AreAdded shape subject keys bs n ss last did.0) same did.1))

pub rest_refused : (shape : Shape) (subject : Subject) (keys : Keys) (was left after : Option (List ℕ)) (first : List ℕ) (held now : Held) (old sum next : Sum) (count : ℕ) (taken : List ℕ) (result : Result ℕ SourceFault) (is : IsReadTo shape subject keys was left first held.bytes old sum count)
    → IsLast left after held now sum next → taken ≡ now.bytes
    → ((n : GroupsByKey) (ss : List Stretch) → AreSummed n ss next → IfErr result (λ why. (at : SourceFault) × IsFaultOf shape subject keys n taken at × IsShifted count at why))
    → (m : GroupsByKey) (cover : List Stretch) → AreSummed m cover old → IfErr result (λ why. OfLeft was (λ rest. IsFaultOf shape subject keys m (first ++ rest) why))
rest_refused shape subject keys was left after first held now old sum next count taken (Ok k) is end same refused m cover summed = tt
rest_refused shape subject keys was left after first held now old sum next count taken (Err why) is end same refused m cover summed =
    let a = is.found m cover summed in
    let n = sum_of shape m a.files in
    let did = refused n (cover ++ stretches_of a.files) (summed_last shape subject keys was left after first held now old sum next count is end m cover summed) in
    rest_wrong shape subject keys was left after first held now old sum next count did.0 why is end m cover summed (subst (λ (bs : List ℕ). IsFaultOf shape subject keys n bs did.0) same did.1) did.2

-- what is wrong before the end
pub next_wrong : (shape : Shape) (subject : Subject) (keys : Keys) (was left : Option (List ℕ)) (first held : List ℕ) (old sum : Sum) (count : ℕ) (why shifted : SourceFault) → IsReadTo shape subject keys was left first held old sum count
    → (m : GroupsByKey) (cover : List Stretch) → AreSummed m cover old
    → ((n : GroupsByKey) (ss : List Stretch) → AreSummed n ss sum → OfLeft left (λ more. IsFaultOf shape subject keys n (held ++ more) why)) → IsShifted count why shifted
    → OfLeft was (λ rest. IsFaultOf shape subject keys m (first ++ rest) shifted)
next_wrong shape subject keys was left first held old sum count why shifted is m cover summed wrong by =
    let a = is.found m cover summed in
    let n = sum_of shape m a.files in
    of_more was left is.more (λ rest. IsFaultOf shape subject keys m (first ++ rest) shifted) is.reads
    (of_as left (λ more. IsFaultOf shape subject keys n (held ++ more) why) (λ more. IsFaultOf shape subject keys m (first ++ (is.more ++ more)) shifted)
    (λ more bad. subst (λ (bs : List ℕ). IsFaultOf shape subject keys m bs shifted) (append_assoc first is.more more)
    (fault_after shape subject keys ((first ++ is.more) ++ more) (held ++ more) m cover sum count why shifted (found_grow shape subject keys (first ++ is.more) held more m cover sum count a) bad by))
    (wrong n (cover ++ stretches_of a.files) a.sum_is))

-- no file is why
not_load : (shape : Shape) (subject : Subject) (keys : Keys) (m : GroupsByKey) (bytes : List ℕ) (why : SourceFault) → IsNoLoad why → IsFaultOf shape subject keys m bytes why
not_load shape subject keys m bytes fault.ReadFault is = tt
not_load shape subject keys m bytes fault.Memory is = tt
not_load shape subject keys m bytes (fault.Load at) is = absurd is

pub no_load : (shape : Shape) (subject : Subject) (keys : Keys) (m : GroupsByKey) (was : Option (List ℕ)) (first : List ℕ) (why : SourceFault) → IsNoLoad why → OfLeft was (λ rest. IsFaultOf shape subject keys m (first ++ rest) why)
no_load shape subject keys m was first why is = of_any was (λ rest. IsFaultOf shape subject keys m (first ++ rest) why) (λ rest. not_load shape subject keys m (first ++ rest) why is)
