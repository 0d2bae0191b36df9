-- Which bytes of a source were read, and where they lie.
use Rattle.std.proofs.Common.{inl, inr, ◌≡◌, ◌<◌, ◌≤◌, ◌+◌, ◌-◌, ◌++◌, ◌∙◌, ℕ, zero, suc, List, [], ◌∷◌, Option, None, Some, IfSome, ap, append-nil, arith, length, length-append, refl, subst, sym}
use Rattle.csv.specs.Reading.{strip_bom}
use Rattle.csv_rows.specs.Records.{records_of}
use Rattle.csv_rows.proofs.Machine.{all_from, records-all}
use Rattle.state_head.specs.declared.cover.Place.{Place}
use Rattle.state_partial.specs.NoPart.{HasNoBegin, OfTile, part_of_tile}
use Rattle.state_partial.specs.Places.{AreLeft, AreRead, HasNoPlace, IsLeft, IsLonger, IsPlaceOf, IsTileAt, text_by, text_left, tile_from, tile_place}
use Rattle.state_partial.specs.Reads.{IsPartRead}
use Rattle.state_partial.specs.declared.reading.Part.{Part}
use Rattle.state_partial.specs.declared.words.Extent.{Extent}
use Rattle.state_partial.specs.declared.words.Extent.TheVariants as extent
use Rattle.plan_spec.specs.Query.{Query}
use Rattle.tile_source.specs.Begins.{IsFromFront, IsFromPlace}
use Rattle.tile_source.specs.Left.{lack, zeros}
use Rattle.tile_source.specs.NoTiles.{IsNoTile}
use Rattle.tile_source.specs.declared.header.NoTile.{NoTile}
use Rattle.tile_source.specs.declared.header.NoTile.TheVariants as no
use Rattle.tile_source.specs.declared.open.Begin.{Begin}
use Rattle.tile_source.specs.declared.open.Span.{Span}

pub nil_of_none : (xs : List ℕ) → length xs ≡ 0 → xs ≡ []
nil_of_none [] e = refl
nil_of_none (x ∷ xs) e = absurd (omega (arith, e))

-- no bytes have no records
none_of_none : records_of [] ≡ []
unfolding strip_bom all_from
none_of_none = records-all []

-- ---- a tile of no bytes has no rows

pub same_bytes : (a b : List ℕ) → Some a ≡ Some b → a ≡ b
same_bytes a b e = cc

-- a tile that is asked for from the front on, and has no bytes
front_one : (source : ℕ) (span : Span) (bytes read : List ℕ) (p : Place) (t : IsTileAt source span bytes p read) → span.from ≡ 0 → IsFromFront t.begin t.begins.brought → p.from ≡ p.to → length (records_of read) ≤ 1
front_one source span bytes read p t first front none =
    let is = same_bytes read (t.begins.brought.header ++ t.begins.body) t.begins.left_is in
    let from : p.from ≡ 0 = ap (λ (q : Place). q.from) t.place ∙ ap (λ (n : ℕ). tile_from n t.begin.at) first in
    let to : p.to ≡ t.begin.at + length t.begins.body = ap (λ (q : Place). q.to) t.place in
    let all : read ≡ [] = nil_of_none read (omega (arith, ap length is, length-append t.begins.brought.header t.begins.body, front.at, from, to, none)) in
    omega (arith, ap (λ (bs : List ℕ). length (records_of bs)) all, ap length none_of_none)

pub later_from : (from at : ℕ) → 0 < from → tile_from from at ≡ at
later_from zero at some = absurd (omega (arith, some))
later_from (suc from) at some = refl

place_one : (source : ℕ) (span : Span) (bytes read : List ℕ) (p : Place) (t : IsTileAt source span bytes p read) → 0 < span.from → IsFromPlace span.from t.begin t.begins.brought → p.from ≡ p.to → length (records_of read) ≤ 1
place_one source span bytes read p t some place none =
    let is = same_bytes read (t.begins.brought.header ++ t.begins.body) t.begins.left_is in
    let from : p.from ≡ t.begin.at = ap (λ (q : Place). q.from) t.place ∙ later_from span.from t.begin.at some in
    let to : p.to ≡ t.begin.at + length t.begins.body = ap (λ (q : Place). q.to) t.place in
    let body : t.begins.body ≡ [] = nil_of_none t.begins.body (omega (arith, from, to, none)) in
    let header : read ≡ t.begins.brought.header = is ∙ (ap (λ (bs : List ℕ). t.begins.brought.header ++ bs) body ∙ append-nil t.begins.brought.header) in
    omega (arith, ap (λ (bs : List ℕ). length (records_of bs)) header, place.one)

pub one_record : (source : ℕ) (e : Extent) (bytes : List ℕ) (p : Place) (read : List ℕ) → AreRead source e bytes p read → p.from ≡ p.to → 0 < p.size → length (records_of read) ≤ 1
one_record source extent.Whole bytes p read are none some =
    let from : p.from ≡ 0 = ap (λ (q : Place). q.from) are.0 in
    let to : p.to ≡ length bytes = ap (λ (q : Place). q.to) are.0 in
    let size : p.size ≡ length bytes = ap (λ (q : Place). q.size) are.0 in
    absurd (omega (arith, from, to, size, none, some))
one_record source (extent.Tile span) bytes p read t none some = elim t.begins.brings.front [
  | inl is ↦ front_one source span bytes read p t is.0 is.1 none
  | inr is ↦ place_one source span bytes read p t is.0 is.1 none
]

-- ---- the place of what was read

place_read : (source : ℕ) (e : Extent) (bytes : List ℕ) (b : Begin) (left : Option (List ℕ)) (read : List ℕ) (size : ℕ) (p : Place) → IsLeft e bytes b left → left ≡ Some read → size ≡ length read → IsPlaceOf source e b size p
    → AreRead source e bytes p read
place_read source extent.Whole bytes b left read size p is e long at =
    let same : read ≡ bytes = same_bytes read bytes (sym e ∙ is) in
    (at ∙ ap (λ (n : ℕ). record { source = source; from = 0; to = n; size = n }) (long ∙ ap length same), same)
place_read source (extent.Tile span) bytes b left read size p begins e long at =
    let is = same_bytes read (begins.brought.header ++ begins.body) (sym e ∙ begins.left_is) in
    let count : size - b.header ≡ length begins.body = omega (arith, long, ap length is, length-append begins.brought.header begins.body, begins.brings.header) in
    record {
      begin = b;
      begins = record { brought = begins.brought; brings = begins.brings; body = begins.body; rest = begins.rest; is_tile = begins.is_tile; left_is = sym e ∙ begins.left_is };
      place = at.0 ∙ ap (tile_place source span b) count;
      within = at.1;
      fits = at.2;
    }

left_some : (e : Extent) (bytes : List ℕ) (b : Begin) → IsLeft e bytes b None → ⊥
left_some extent.Whole bytes b is = cc is
left_some (extent.Tile span) bytes b begins = let bad = begins.left_is in cc bad

-- what is so of the bytes that were read of a source is so of those that it brings
some_made : (P : List ℕ → Type 0) (mid : Option (List ℕ)) (e : Extent) (b : Begin) (query : Query) (part : Part) (source : ℕ) (p : Place) (bytes : List ℕ) → IsLeft e (text_by query bytes) b mid → IsPartRead query mid part
    → IsPlaceOf source e b part.size p → ((bytes read : List ℕ) → AreRead source e (text_by query bytes) p read → IsPartRead query (Some read) part → P bytes) → P bytes
some_made P None e b query part source p bytes left read at made = absurd (left_some e (text_by query bytes) b left)
some_made P (Some given) e b query part source p bytes left read at made = made bytes given (place_read source e (text_by query bytes) b (Some given) given part.size p left refl read.size at) read

pub part_made : (P : List ℕ → Type 0) (old mid : Option (List ℕ)) (e : Extent) (b : Begin) (query : Query) (part : Part) (source : ℕ) (p : Place) → IfSome old (λ text. IsLeft e text b mid) → IsPartRead query mid part
    → IsPlaceOf source e b part.size p → ((bytes read : List ℕ) → AreRead source e (text_by query bytes) p read → IsPartRead query (Some read) part → P bytes)
    → (left : Option (List ℕ)) → old ≡ text_left query left → IfSome left P
part_made P old mid e b query part source p begun read at made None is = tt
part_made P old mid e b query part source p begun read at made (Some bytes) is =
    some_made P mid e b query part source p bytes (subst (λ (o : Option (List ℕ)). IfSome o (λ text. IsLeft e text b mid)) is begun) read at made

-- ---- a source that has more than its size

length_zeros : (n : ℕ) → length (zeros n) ≡ n
unfolding zeros
length_zeros zero = refl
length_zeros (suc n) = let more = length_zeros n in omega (arith, more)

pub longer : (old mid : Option (List ℕ)) (e : Extent) (b : Begin) (query : Query) (part : Part) → IfSome old (λ bytes. IsLeft e bytes b mid) → IsPartRead query mid part → HasNoPlace e b part.size → OfTile IsLonger e old
longer old mid extent.Whole b query part left read none = absurd none
longer None mid (extent.Tile span) b query part left read none = tt
longer (Some bytes) None (extent.Tile span) b query part left read none = absurd (left_some (extent.Tile span) bytes b left)
longer (Some bytes) (Some given) (extent.Tile span) b query part begins read none =
    let is = same_bytes given (begins.brought.header ++ begins.body) begins.left_is in
    let tail = begins.brought.tail in
    let lacks = lack span.size b.at tail in
    record {
      begin = b;
      brought = begins.brought;
      brings = begins.brings;
      longer = omega (
        arith,
        none,
        read.size,
        ap length is,
        length-append begins.brought.header begins.body,
        begins.brings.header,
        ap length begins.is_tile.are,
        length-append tail lacks,
        length-append begins.body begins.rest,
        length_zeros (span.size - (b.at + length tail)),
      );
    }

-- ---- a tile that has no beginning

pub no_begin : (span : Span) (left : Option (List ℕ)) (why : NoTile) → IfSome left (λ bytes. IsNoTile span bytes why) → HasNoBegin (extent.Tile span) left (part_of_tile why)
no_begin span left no.ReadFault is = inl refl
no_begin span left no.NoHeader is = is
no_begin span left no.LongHeader is = is
no_begin span left no.Short is = is
no_begin span left no.Memory is = inr refl

pub are_left : (e : Extent) (old mid : Option (List ℕ)) (b : Begin) → IfSome old (λ bytes. IsLeft e bytes b mid) → AreLeft e old mid
are_left e None mid b is = tt
are_left e (Some bytes) mid b is = (b, is)
