-- Why there is no tile.
use Rattle.std.proofs.Common.{◌≡◌, ◌<◌, ◌≤◌, ◌+◌, ◌∙◌, ◌^◌, ◌⊎◌, ℕ, List, [], ◌∷◌, ◌++◌, Option, None, Some, append-nil, append_assoc, length, length-append, length-drop, take, drop, slice_index, refl, sym, ap, subst, arith, inl, inr, take-append-drop}
use Rattle.std.specs.Prelude.{IfSome}
use Rattle.std.proofs.KnownBytes.{Consumes-trans}
use Rattle.std.proofs.lemmas.List.{drop-append-le, drop_all, take-append-le, take_all}
use Rattle.std.specs.Io.KnownBytes.{Consumes, IsAtEnd, prepend_known}
use Rattle.csv_rows.specs.Records.{records_of}
use Rattle.row_windows.specs.Seams.{IsCutAt}
use Rattle.row_windows.specs.declared.window.TheConstants.{MOST_RECORD_BYTES}
use Rattle.row_windows.proofs.Cuts.{cut-longer}
use Rattle.tile_source.specs.Begins.{EndsInRecord, IsLineEnd}
use Rattle.tile_source.specs.Finding.{HasEnded}
use Rattle.tile_source.specs.Header.{EndsHere, EndsLate, HasTwo, IsHeaded}
use Rattle.tile_source.specs.NoTiles.{EndsEarly, HasLineEnd, HasLongHeader, HasNoLine, HeaderEnds, IsNoTile, NoLineEnd}
use Rattle.tile_source.specs.declared.header.NoTile.{NoTile}
use Rattle.tile_source.specs.declared.header.NoTile.TheVariants as no
use Rattle.tile_source.specs.declared.open.Span.{Span}
use Rattle.tile_source.proofs.Opening.{no-line-end}
use Rattle.tile_source.proofs.Passes.{HasPassed}

-- ---- a header that is too long

pub late-none : (text : List ℕ) → length (records_of text) ≤ 1 → EndsLate text
late-none text few = record { front = text; rest = []; are = sym (append-nil text); late = omega arith; one = few }

pub late-some : (text : List ℕ) (end : ℕ) → EndsHere text end → length text < end + 2 → EndsLate text
late-some text end ends near = record {
  front = take end text;
  rest = drop end text;
  are = sym (take-append-drop end text);
  late = omega (arith, length-drop end text, near);
  one = omega (arith, ends.one);
}

pub too-long : (old new : Option (List ℕ)) (text : List ℕ) → Consumes old new text → MOST_RECORD_BYTES + 1 < length text → EndsLate text → IfSome old HasLongHeader
too-long None new text reads long late = tt
too-long (Some bytes) None text reads long late = absurd reads
too-long (Some bytes) (Some left) text reads long late = record {
  front = late.front;
  rest = late.rest ++ left;
  are = reads ∙ (ap (λ (l : List ℕ). l ++ left) late.are ∙ append_assoc late.front late.rest left);
  long = omega (arith, long, ap length late.are, length-append late.front late.rest, late.late);
  one = late.one;
}

-- ---- a header that is no line

-- no line feed comes first, and no carriage return with a line feed
abbrev NoFeed : List ℕ → Type 0
NoFeed xs = 0 < length xs → slice_index xs 0 ≡ 10 → ⊥

abbrev NoReturn : List ℕ → Type 0
NoReturn xs = 2 ≤ length xs → slice_index xs 0 ≡ 13 → slice_index xs 1 ≡ 10 → ⊥

none-near : (xs : List ℕ) → NoFeed xs → NoReturn xs → HasLineEnd xs → ⊥
none-near xs first second has = go has.line
  where
    go : IsLineEnd has.line_end → ⊥
    go (inl feed) =
        let e : xs ≡ 10 ∷ has.rest = has.is ∙ ap (λ (l : List ℕ). l ++ has.rest) feed in
        first (omega (arith, ap length e)) (ap (λ (l : List ℕ). slice_index l 0) e)
    go (inr both) =
        let e : xs ≡ 13 ∷ 10 ∷ has.rest = has.is ∙ ap (λ (l : List ℕ). l ++ has.rest) both in
        second (omega (arith, ap length e)) (ap (λ (l : List ℕ). slice_index l 0) e) (ap (λ (l : List ℕ). slice_index l 1) e)

none-far : (xs more : List ℕ) → 2 ≤ length xs → NoFeed xs → NoReturn xs → HasLineEnd (xs ++ more) → ⊥
none-far [] more two first second has = absurd (omega (arith, two))
none-far (a ∷ []) more two first second has = absurd (omega (arith, two))
none-far (a ∷ b ∷ xs) more two first second has = none-near (a ∷ b ∷ xs ++ more) (λ some e. first (omega arith) e) (λ some e f. second (omega arith) e f) has

pub none-there : (xs : List ℕ) → NoFeed xs → NoReturn xs → NoLineEnd xs
none-there xs first second = record { near = none-near xs first second; far = λ two more. none-far xs more two first second }

-- of more bytes
ends-longer : (text left : List ℕ) (end : ℕ) → EndsHere text end → EndsHere (text ++ left) end
ends-longer text left end ends =
    let whole : take (length text) (text ++ left) ≡ text = take-append-le (length text) text left (omega arith) ∙ take_all (length text) text (omega arith) in
    let front : take end (text ++ left) ≡ take end text = take-append-le end text left (omega (arith, ends.cut.within)) in
    record {
      cut = cut-longer (text ++ left) (length text) end (subst (λ (t : List ℕ). IsCutAt t end) (sym whole) ends.cut);
      one = ap (λ (t : List ℕ). length (records_of t)) front ∙ ends.one;
    }

header-ends : (text left : List ℕ) (end : ℕ) → IsHeaded text end (Some left) → HeaderEnds (text ++ left) end
header-ends text left end (inl ends) = inl (ends-longer text left end ends)
header-ends text left end (inr all) =
    let same : text ++ left ≡ text = ap (λ (l : List ℕ). text ++ l) all.at_end ∙ append-nil text in
    inr (all.all ∙ sym (ap length same), subst (λ (t : List ℕ). length (records_of t) ≤ 1) (sym same) all.one)

header-within : (text : List ℕ) (end : ℕ) (left : Option (List ℕ)) → IsHeaded text end left → end ≤ length text
header-within text end left (inl ends) = omega (arith, ends.cut.within)
header-within text end left (inr all) = omega (arith, all.all)

none-after : (text left : List ℕ) (end : ℕ) → end ≤ length text → HasTwo text end (Some left) → NoLineEnd (drop end text) → HasLineEnd (drop end (text ++ left)) → ⊥
none-after text left end within (inl two) none has =
    none.far (omega (arith, length-drop end text, two)) left (subst HasLineEnd (drop-append-le end text left within) has)
none-after text left end within (inr last) none has =
    let same : text ++ left ≡ text = ap (λ (l : List ℕ). text ++ l) last ∙ append-nil text in
    none.near (subst (λ (t : List ℕ). HasLineEnd (drop end t)) same has)

-- a header that ends in no record, or after which no line ends
pub no-line : (from : ℕ) (old new : Option (List ℕ)) (text : List ℕ) (end : ℕ) → 0 < from → Consumes old new text → IsHeaded text end new → HasTwo text end new → (EndsInRecord (take end text) → NoLineEnd (drop end text))
    → IfSome old (λ bytes. (0 < from) × HasNoLine bytes)
no-line from None new text end some reads headed two none = tt
no-line from (Some bytes) None text end some reads headed two none = absurd reads
no-line from (Some bytes) (Some left) text end some reads headed two none =
    let within = header-within text end (Some left) headed in
    let has : HasNoLine (text ++ left) = record {
      end = end;
      ends = header-ends text left end headed;
      no_line = λ last after. none-after text left end within two (none (subst EndsInRecord (take-append-le end text left within) last)) after;
    } in
    (some, subst HasNoLine (sym reads) has)

-- ---- a source that ends early

pub ended : (f at size : ℕ) (ahead xs : List ℕ) (old a b : Option (List ℕ)) → HasPassed ahead old a f at → xs ≡ [] → Consumes a b xs → IsAtEnd b → at < size → size < 2 ^ 64 → HasEnded ahead old b f size
ended f at size ahead xs old a b before none reads end low big = record {
  passed = before.passed;
  reads = subst (Consumes (prepend_known ahead old) b) (append-nil before.passed) (Consumes-trans (prepend_known ahead old) a b before.passed [] before.reads (subst (Consumes a b) none reads));
  end = end;
  early = omega (arith, before.at_is, low, big);
}

pub ends-early : (span : Span) (text : List ℕ) (end n : ℕ) (old mid new : Option (List ℕ)) → 0 < span.from → IsHeaded text end mid → Consumes old mid text → IsLineEnd (take n (drop end text))
    → HasEnded (drop n (drop end text)) mid new span.from span.size → IfSome old (λ bytes. (0 < span.from) × EndsEarly span bytes)
ends-early span text end n None mid new some headed reads line ended = tt
ends-early span text end n (Some bytes) None new some headed reads line ended = absurd reads
ends-early span text end n (Some bytes) (Some m) None some headed reads line ended = absurd ended.reads
ends-early span text end n (Some bytes) (Some m) (Some left) some headed reads line ended =
    let after = drop end text in
    let ends : EndsHere text end = elim headed [
      | inl ends ↦ ends
      | inr all ↦ absurd (no-line-end n after (drop_all end text (omega (arith, all.all))) line)
    ] in
    let passed : drop n after ++ m ≡ ended.passed = ended.reads ∙ (ap (λ (l : List ℕ). ended.passed ++ l) ended.end ∙ append-nil ended.passed) in
    let behind : after ++ m ≡ take n after ++ ended.passed =
    ap (λ (l : List ℕ). l ++ m) (sym (take-append-drop n after)) ∙ (append_assoc (take n after) (drop n after) m ∙ ap (λ (l : List ℕ). take n after ++ l) passed) in
    let whole : text ++ m ≡ take end text ++ (after ++ m) = ap (λ (l : List ℕ). l ++ m) (sym (take-append-drop end text)) ∙ append_assoc (take end text) after m in (
      some,
      record {
        header = take end text;
        line_end = take n after;
        passed = ended.passed;
        are = reads ∙ (whole ∙ ap (λ (l : List ℕ). take end text ++ l) behind);
        one = ends.one;
        whole = ends.cut.seam.whole;
        line = line;
        early = ended.early;
      },
    )

-- ---- what a beginning that was not found says

-- of the bytes passed over nothing else is said
abbrev IsOfPassing : NoTile → Type 0
IsOfPassing why = (why ≡ no.ReadFault) ⊎ ((why ≡ no.Memory) ⊎ (why ≡ no.Short))

other-reason : (why : NoTile) → IsOfPassing why → (why ≡ no.ReadFault → ⊥) → (why ≡ no.Memory → ⊥) → (why ≡ no.Short → ⊥) → ⊥
other-reason why (inl is) f g h = f is
other-reason why (inr (inl is)) f g h = g is
other-reason why (inr (inr is)) f g h = h is

pub passing-reason : (span : Span) (left : Option (List ℕ)) (why : NoTile) → IsOfPassing why → (why ≡ no.Short → IfSome left (λ bytes. (0 < span.from) × EndsEarly span bytes)) → IfSome left (λ bytes. IsNoTile span bytes why)
passing-reason span None why is early = tt
passing-reason span (Some bytes) no.ReadFault is early = tt
passing-reason span (Some bytes) no.NoHeader is early = absurd (other-reason no.NoHeader is (λ e. cc e) (λ e. cc e) (λ e. cc e))
passing-reason span (Some bytes) no.LongHeader is early = absurd (other-reason no.LongHeader is (λ e. cc e) (λ e. cc e) (λ e. cc e))
passing-reason span (Some bytes) no.Short is early = early refl
passing-reason span (Some bytes) no.Memory is early = tt
