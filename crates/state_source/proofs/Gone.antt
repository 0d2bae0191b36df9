-- Files that were added to ranges, the one that was looked at after them, and what is left.
use Rattle.std.proofs.Common.{◌≡◌, ◌+◌, ◌++◌, ◌∙◌, inl, inr, Err, IfOk, MatchResult, Ok, Result, ℕ, All, List, [], ◌∷◌, None, Option, Some, ap, append_assoc, append-nil, arith, drop, length, length-append, map, refl, subst, sym}
use Rattle.std.proofs.KnownBytes.{Consumes-nil, Consumes-trans}
use Rattle.std.proofs.lemmas.Grind.{flat_map-append}
use Rattle.std.proofs.lemmas.List.Elements.{All-append, All-nil, All-push}
use Rattle.std.proofs.lemmas.List.Sums.{fold_push}
use Rattle.std.specs.FinMap as finite
use Rattle.std.specs.Io.KnownBytes.{Consumes}
use Rattle.partial_agg.specs.Groups.{GroupsByKey}
use Rattle.state_blocks.specs.Blocks.{Group, IsBlock, blocks_bytes}
use Rattle.state_body.specs.Body.{groups_of}
use Rattle.state_head.specs.Head.{Subject}
use Rattle.state_head.specs.Words.{Keys}
use Rattle.state_head.specs.declared.cover.Stretch.{Stretch}
use Rattle.state_keep.specs.declared.keep.KeepFault.{KeepFault}
use Rattle.state_keep.specs.declared.keep.KeepFault.TheVariants as keep_fault
use Rattle.state_load.specs.Faults.{IsNoPart}
use Rattle.state_load.specs.declared.look.LookedAt.{LookedAt}
use Rattle.state_order.specs.Order.{Rise}
use Rattle.state_load.specs.Loading.{AreParts, IsLookedAt, IsPart, files_bytes, stretches_of, sum_of}
use Rattle.state_ranges.specs.Sums.{AreRangeSums}
use Rattle.state_ranges.specs.declared.sums.RangeSums.{RangeSums}
use Rattle.state_source.specs.Adding.{IsFaultOf, IsShifted}
use Rattle.state_source.specs.Beside.{AreInRanges, ComesOn, IsAddedTo, IsSeen, IsSeenIn, IsSeenOf}
use Rattle.state_source.specs.Reading.{Held, OfLeft, ReadsOn}
use Rattle.state_source.specs.declared.adding.SourceFault.{SourceFault}
use Rattle.state_source.specs.declared.adding.SourceFault.TheVariants as fault
use Rattle.state_source.specs.declared.beside.Seen.{Seen}
use Rattle.state_source.proofs.Adds.{after_skip, sum_join}
use Rattle.state_source.proofs.Rests.{of_as, of_end, of_more, reads_on}
use Rattle.state_whole.specs.Adding.{key_of, sum_with}
use Rattle.state_whole.specs.Files.{StateFile, file_bytes, tuples_in}
use Rattle.state_whole.specs.declared.adding.Shape.{Shape}

-- ---- files, and one more

pub bytes_push : (shape : Shape) (fs : List StateFile) (f : StateFile) (rest : List ℕ) → files_bytes shape (fs ++ f ∷ []) ++ rest ≡ files_bytes shape fs ++ (file_bytes shape.kinds.now f ++ rest)
bytes_push shape fs f rest =
    ap (λ (bs : List ℕ). bs ++ rest) (flat_map-append (file_bytes shape.kinds.now) fs (f ∷ []) ∙ ap (λ (bs : List ℕ). files_bytes shape fs ++ bs) (append-nil (file_bytes shape.kinds.now f)))
    ∙ append_assoc (files_bytes shape fs) (file_bytes shape.kinds.now f) rest

stretches_push : (fs : List StateFile) (f : StateFile) → stretches_of (fs ++ f ∷ []) ≡ stretches_of fs ++ f.preface.cover
stretches_push fs f = flat_map-append {X = StateFile} {A = Stretch} (λ g. g.preface.cover) fs (f ∷ []) ∙ ap (λ (ss : List Stretch). stretches_of fs ++ ss) (append-nil f.preface.cover)

sum_push : (shape : Shape) (m : GroupsByKey) (fs : List StateFile) (f : StateFile) → sum_of shape m (fs ++ f ∷ []) ≡ sum_with shape (sum_of shape m fs) (tuples_in f)
sum_push shape m fs f = fold_push (λ (so_far : GroupsByKey) (g : StateFile). sum_with shape so_far (tuples_in g)) m fs f

sums_push : (shape : Shape) (fs : List StateFile) (f : StateFile) (sums : RangeSums) → AreRangeSums shape.columns (sum_with shape (sum_of shape finite.empty fs) (tuples_in f)) (stretches_of fs ++ f.preface.cover) sums
    → AreRangeSums shape.columns (sum_of shape finite.empty (fs ++ f ∷ [])) (stretches_of (fs ++ f ∷ [])) sums
sums_push shape fs f sums is =
    subst (λ (x : GroupsByKey). AreRangeSums shape.columns x (stretches_of (fs ++ f ∷ [])) sums) (sym (sum_push shape finite.empty fs f))
    (subst (λ (ss : List Stretch). AreRangeSums shape.columns (sum_with shape (sum_of shape finite.empty fs) (tuples_in f)) ss sums) (sym (stretches_push fs f)) is)

-- ---- one file

-- what is kept of a file that was looked at
pub seen_in : (shape : Shape) (subject : Subject) (keys : Keys) (bytes : List ℕ) (at : LookedAt) (seen : Seen) → IsLookedAt shape subject keys bytes at → seen.blocks.items ≡ at.blocks.now → seen.cover.items ≡ at.front.head.cover.items
    → seen.size + length at.rest.now ≡ length bytes → IsSeenIn shape subject keys bytes seen
seen_in shape subject keys bytes at seen is blocks cover size =
    let front = file_bytes shape.kinds.now is.f in (
      omega (arith, size),
      record {
        f = is.f;
        seen_of = record { is_part = is.is_part; cover_is = cover ∙ is.cover_is; blocks_are = blocks ∙ is.blocks_are };
        is = is.is ∙ ap (λ (bs : List ℕ). front ++ bs) (after_skip front at.rest.now bytes (drop seen.size bytes) seen.size is.is size refl);
      },
    )

-- it is added
pub seen_added : (shape : Shape) (subject : Subject) (keys : Keys) (m : GroupsByKey) (cover more : List Stretch) (f : StateFile) (seen : Seen) (blocks : List ℕ) (result : Result RangeSums KeepFault) → IsSeenOf shape subject keys f seen
    → blocks ≡ seen.blocks.items → more ≡ seen.cover.items
    → ((bs : List (List Group)) → All (IsBlock shape.columns shape.kinds.now) bs → Rise shape.columns (map key_of (groups_of bs)) → blocks ≡ blocks_bytes shape.kinds.now bs
    → MatchResult result (AreRangeSums shape.columns (sum_with shape m (groups_of bs)) (cover ++ more)) (λ why. why ≡ keep_fault.Memory))
    → IfOk result (AreRangeSums shape.columns (sum_with shape m (tuples_in f)) (cover ++ f.preface.cover))
seen_added shape subject keys m cover more f seen blocks (Err why) of same also added = tt
seen_added shape subject keys m cover more f seen blocks (Ok sums) of same also added =
    let groups = of.is_part.is_file.are_groups in
    subst (λ (ss : List Stretch). AreRangeSums shape.columns (sum_with shape m (tuples_in f)) (cover ++ ss) sums) (also ∙ of.cover_is) (added f.blocks groups.is_body.each groups.in_order.rise (same ∙ of.blocks_are))

-- ---- the file that comes next

-- it was looked at in bytes that were read by then
pub seen_on : (shape : Shape) (subject : Subject) (keys : Keys) (was left : Option (List ℕ)) (before held now : Held) (bytes : List ℕ) (seen : Seen) → ReadsOn was left before.bytes held.bytes → bytes ≡ held.bytes → IsSeenIn shape subject keys bytes seen
    → now.bytes ≡ drop seen.size held.bytes → ComesOn shape subject keys was left before now (Some seen)
seen_on shape subject keys was left before held now bytes seen reads same is cut =
    let here = subst (λ (bs : List ℕ). IsSeenIn shape subject keys bs seen) same is in
    (held.bytes, reads, subst (λ (bs : List ℕ). IsSeen shape subject keys held.bytes bs seen) (sym cut) here.1)

-- more had been read before
pub comes_after : (shape : Shape) (subject : Subject) (keys : Keys) (was middle left : Option (List ℕ)) (before held now : Held) (found : Option Seen) → ReadsOn was middle before.bytes held.bytes → ComesOn shape subject keys middle left held now found
    → ComesOn shape subject keys was left before now found
comes_after shape subject keys was middle left before held now None reads comes = (reads_on was middle left before.bytes held.bytes now.bytes reads comes.0, comes.1)
comes_after shape subject keys was middle left before held now (Some seen) reads comes = (comes.0, reads_on was middle left before.bytes held.bytes comes.0 reads comes.1, comes.2)

-- ---- the first one

-- what holds of the first file and what comes after it holds of all that there was, and what is left
pub from_first : (shape : Shape) (subject : Subject) (keys : Keys) (was left : Option (List ℕ)) (first : List ℕ) (before after : Held) (seen : Seen) (P : List ℕ → Type 0) → before.bytes ≡ first → (comes : ComesOn shape subject keys was left before after (Some seen))
    → OfLeft left (λ more. P (file_bytes shape.kinds.now comes.2.f ++ (after.bytes ++ more))) → OfLeft was (λ rest. P (first ++ rest))
from_first shape subject keys was left first before after seen P same comes of =
    let reads = comes.1 in
    let front = file_bytes shape.kinds.now comes.2.f in
    of_more was left reads.0 (λ rest. P (first ++ rest)) reads.1
    (of_as left (λ more. P (front ++ (after.bytes ++ more))) (λ more. P (first ++ (reads.0 ++ more)))
    (λ more is. subst P
    (sym (append_assoc front after.bytes more) ∙ ap (λ (bs : List ℕ). bs ++ more) (sym comes.2.is ∙ reads.2) ∙ ap (λ (bs : List ℕ). (bs ++ reads.0) ++ more) same ∙ append_assoc first reads.0 more) is)
    of)

-- or there is none, and nothing is left
pub none_gone : (shape : Shape) (subject : Subject) (keys : Keys) (was left : Option (List ℕ)) (first : List ℕ) (before after : Held) (sums : RangeSums) → before.bytes ≡ first → ComesOn shape subject keys was left before after None → after.bytes ≡ []
    → AreRangeSums shape.columns finite.empty [] sums → OfLeft was (λ rest. AreInRanges shape subject keys (first ++ rest) sums)
none_gone shape subject keys was left first before after sums same comes none is =
    let reads = comes.0 in
    of_end was left reads.0 (λ rest. AreInRanges shape subject keys (first ++ rest) sums) reads.1 comes.1
    (record { files = []; are = All-nil (IsPart shape subject keys); is = ap (λ (bs : List ℕ). bs ++ reads.0) (sym same) ∙ sym reads.2 ∙ none; sum_is = is })

-- or what is left is none
pub none_wrong : (shape : Shape) (subject : Subject) (keys : Keys) (was left : Option (List ℕ)) (first : List ℕ) (before after : Held) (why : SourceFault) → before.bytes ≡ first → ComesOn shape subject keys was left before after None → IsFaultOf shape subject keys finite.empty after.bytes why
    → OfLeft was (λ rest. IsFaultOf shape subject keys finite.empty (first ++ rest) why)
none_wrong shape subject keys was left first before after why same comes wrong =
    let reads = comes.0 in
    of_end was left reads.0 (λ rest. IsFaultOf shape subject keys finite.empty (first ++ rest) why) reads.1 comes.1
    (subst (λ (bs : List ℕ). IsFaultOf shape subject keys finite.empty bs why) (reads.2 ∙ ap (λ (bs : List ℕ). bs ++ reads.0) same) wrong)

-- ---- so far

-- these were read after the first bytes; this many files in all were looked at, and all but the last one were added;
-- these are left
pub record IsGone (shape : Shape) (subject : Subject) (keys : Keys) (was left : Option (List ℕ)) (first held : List ℕ) (sums : RangeSums) (seen : Seen) (count : ℕ) : Type 0 where
  pub more : List ℕ
  pub reads : Consumes was left more
  pub files : List StateFile
  pub are : AreParts shape subject keys files
  pub many : length files + 1 ≡ count
  pub f : StateFile
  pub seen_of : IsSeenOf shape subject keys f seen
  pub is : first ++ more ≡ files_bytes shape (files ++ f ∷ []) ++ held
  pub sum_is : AreRangeSums shape.columns (sum_of shape finite.empty files) (stretches_of files) sums

pub one_gone : (shape : Shape) (subject : Subject) (keys : Keys) (left : Option (List ℕ)) (held now : List ℕ) (f : StateFile) (sums : RangeSums) (seen : Seen) → now ≡ held → IsSeenOf shape subject keys f seen → AreRangeSums shape.columns finite.empty [] sums
    → IsGone shape subject keys left left (file_bytes shape.kinds.now f ++ held) now sums seen 1
one_gone shape subject keys left held now f sums seen same of none = record {
  more = [];
  reads = Consumes-nil left;
  files = [];
  are = All-nil (IsPart shape subject keys);
  many = refl;
  f = f;
  seen_of = of;
  is = append-nil (file_bytes shape.kinds.now f ++ held) ∙ ap (λ (bs : List ℕ). file_bytes shape.kinds.now f ++ bs) (sym same) ∙ sym (bytes_push shape [] f now);
  sum_is = none;
}

-- what was read then begins as what was left
pub grown : (shape : Shape) (fs : List StateFile) (first more held later text : List ℕ) → first ++ more ≡ files_bytes shape fs ++ held → text ≡ held ++ later → first ++ (more ++ later) ≡ files_bytes shape fs ++ text
grown shape fs first more held later text is e =
    sym (append_assoc first more later) ∙ ap (λ (bs : List ℕ). bs ++ later) is ∙ append_assoc (files_bytes shape fs) held later ∙ ap (λ (bs : List ℕ). files_bytes shape fs ++ bs) (sym e)

-- the file that was looked at was added, and the next one was looked at
pub more_gone : (shape : Shape) (subject : Subject) (keys : Keys) (was left after : Option (List ℕ)) (first : List ℕ) (held now : Held) (sums next : RangeSums) (seen other : Seen) (count : ℕ) → IsGone shape subject keys was left first held.bytes sums seen count
    → IsAddedTo shape seen sums next
    → ComesOn shape subject keys left after held now (Some other) → IsGone shape subject keys was after first now.bytes next other (count + 1)
more_gone shape subject keys was left after first held now sums next seen other count is added comes =
    let files = is.files ++ is.f ∷ [] in
    let many = is.many in
    let reads = comes.1 in
    let of = comes.2 in
    record {
      more = is.more ++ reads.0;
      reads = Consumes-trans was left after is.more reads.0 is.reads reads.1;
      files = files;
      are = All-push (IsPart shape subject keys) is.files is.f is.are is.seen_of.is_part;
      many = omega (arith, many, length-append is.files (is.f ∷ []));
      f = of.f;
      seen_of = of.seen_of;
      is = grown shape files first is.more held.bytes reads.0 comes.0 is.is reads.2 ∙ ap (λ (bs : List ℕ). files_bytes shape files ++ bs) of.is ∙ sym (bytes_push shape files of.f now.bytes);
      sum_is = sums_push shape is.files is.f next (added.sum subject keys (sum_of shape finite.empty is.files) (stretches_of is.files) is.f is.sum_is is.seen_of);
    }

-- ---- at the end

-- the file that was looked at was added, and nothing is left
pub all_gone : (shape : Shape) (subject : Subject) (keys : Keys) (was left after : Option (List ℕ)) (first : List ℕ) (held now : Held) (sums next : RangeSums) (seen : Seen) (count : ℕ) → IsGone shape subject keys was left first held.bytes sums seen count
    → IsAddedTo shape seen sums next
    → ComesOn shape subject keys left after held now None → now.bytes ≡ [] → OfLeft was (λ rest. AreInRanges shape subject keys (first ++ rest) next)
all_gone shape subject keys was left after first held now sums next seen count is added comes none =
    let files = is.files ++ is.f ∷ [] in
    let reads = comes.0 in
    of_end was after (is.more ++ reads.0) (λ rest. AreInRanges shape subject keys (first ++ rest) next) (Consumes-trans was left after is.more reads.0 is.reads reads.1) comes.1 (record {
      files = files;
      are = All-push (IsPart shape subject keys) is.files is.f is.are is.seen_of.is_part;
      is = grown shape files first is.more held.bytes reads.0 now.bytes is.is reads.2 ∙ ap (λ (bs : List ℕ). files_bytes shape files ++ bs) none ∙ append-nil (files_bytes shape files);
      sum_is = sums_push shape is.files is.f next (added.sum subject keys (sum_of shape finite.empty is.files) (stretches_of is.files) is.f is.sum_is is.seen_of);
    })

-- ---- why one of them is none

-- a fault of what is left after some files is one of all, with another number
pub fault_after : (shape : Shape) (subject : Subject) (keys : Keys) (files : List StateFile) (bytes rest : List ℕ) (m : GroupsByKey) (n : ℕ) (why shifted : SourceFault) → AreParts shape subject keys files → bytes ≡ files_bytes shape files ++ rest → length files ≡ n
    → IsFaultOf shape subject keys (sum_of shape m files) rest why → IsShifted n why shifted → IsFaultOf shape subject keys m bytes shifted
fault_after shape subject keys files bytes rest m n fault.ReadFault shifted are is many wrong by = subst (IsFaultOf shape subject keys m bytes) (sym by) tt
fault_after shape subject keys files bytes rest m n fault.Memory shifted are is many wrong by = subst (IsFaultOf shape subject keys m bytes) (sym by) tt
fault_after shape subject keys files bytes rest m n (fault.Load at) shifted are is many wrong (inl e) = subst (IsFaultOf shape subject keys m bytes) (sym e) tt
fault_after shape subject keys files bytes rest m n (fault.Load at) shifted are is many wrong (inr e) =
    let number = wrong.number in
    subst (IsFaultOf shape subject keys m bytes) (sym e) (record {
      files = files ++ wrong.files;
      are = All-append (IsPart shape subject keys) files wrong.files are wrong.are;
      number = omega (arith, many, number, length-append files wrong.files);
      rest = wrong.rest;
      is = is ∙ ap (λ (bs : List ℕ). files_bytes shape files ++ bs) wrong.is ∙ sym (append_assoc (files_bytes shape files) (files_bytes shape wrong.files) wrong.rest)
          ∙ ap (λ (bs : List ℕ). bs ++ wrong.rest) (sym (flat_map-append (file_bytes shape.kinds.now) files wrong.files));
      none = subst (λ (x : GroupsByKey). IsNoPart shape subject keys x wrong.rest at.why) (sym (sum_join shape m files wrong.files)) wrong.none;
    })

-- the next file is none, or there was no memory to add the one before it
pub gone_wrong : (shape : Shape) (subject : Subject) (keys : Keys) (was left : Option (List ℕ)) (first held : List ℕ) (sums : RangeSums) (seen : Seen) (count : ℕ) (why shifted : SourceFault) → IsGone shape subject keys was left first held sums seen count
    → ((m : GroupsByKey) → OfLeft left (λ more. IsFaultOf shape subject keys m (held ++ more) why)) → IsShifted count why shifted → OfLeft was (λ rest. IsFaultOf shape subject keys finite.empty (first ++ rest) shifted)
gone_wrong shape subject keys was left first held sums seen count why shifted is wrong by =
    let files = is.files ++ is.f ∷ [] in
    let many = is.many in
    let n = sum_of shape finite.empty files in
    of_more was left is.more (λ rest. IsFaultOf shape subject keys finite.empty (first ++ rest) shifted) is.reads
    (of_as left (λ more. IsFaultOf shape subject keys n (held ++ more) why) (λ more. IsFaultOf shape subject keys finite.empty (first ++ (is.more ++ more)) shifted)
    (λ more bad. fault_after shape subject keys files (first ++ (is.more ++ more)) (held ++ more) finite.empty count why shifted (All-push (IsPart shape subject keys) is.files is.f is.are is.seen_of.is_part)
    (grown shape files first is.more held more (held ++ more) is.is refl) (omega (arith, many, length-append is.files (is.f ∷ []))) bad by)
    (wrong n))

-- the last bytes are none
pub rest_wrong : (shape : Shape) (subject : Subject) (keys : Keys) (was left after : Option (List ℕ)) (first : List ℕ) (held now : Held) (sums : RangeSums) (seen : Seen) (count : ℕ) (why shifted : SourceFault) → IsGone shape subject keys was left first held.bytes sums seen count
    → ComesOn shape subject keys left after held now None → ((m : GroupsByKey) → IsFaultOf shape subject keys m now.bytes why) → IsShifted count why shifted → OfLeft was (λ rest. IsFaultOf shape subject keys finite.empty (first ++ rest) shifted)
rest_wrong shape subject keys was left after first held now sums seen count why shifted is comes wrong by =
    let files = is.files ++ is.f ∷ [] in
    let many = is.many in
    let reads = comes.0 in
    of_end was after (is.more ++ reads.0) (λ rest. IsFaultOf shape subject keys finite.empty (first ++ rest) shifted) (Consumes-trans was left after is.more reads.0 is.reads reads.1) comes.1
    (fault_after shape subject keys files (first ++ (is.more ++ reads.0)) now.bytes finite.empty count why shifted (All-push (IsPart shape subject keys) is.files is.f is.are is.seen_of.is_part)
    (grown shape files first is.more held.bytes reads.0 now.bytes is.is reads.2) (omega (arith, many, length-append is.files (is.f ∷ []))) (wrong (sum_of shape finite.empty files)) by)
