-- A batch that is filled window by window.
use Rattle.std.proofs.Common.{◌≡◌, ◌≤◌, inl, inr, ◌+◌, ◌^◌, ◌++◌, ◌∙◌, ℕ, Bool, false, List, [], ◌∷◌, All, Option, None, Some, length, map, refl, ap, sym, subst, arith, append-nil, append_assoc}
use Rattle.std.specs.Global.{Vec}
use Rattle.std.proofs.lemmas.List.{map-append}
use Rattle.std.proofs.lemmas.List.Concat.{flat_map-append}
use Rattle.std.proofs.lemmas.List.Elements.{All-nil, All-push, All-same}
use Rattle.csv_rows.specs.Cuts.{IsCut}
use Rattle.csv_rows.specs.Readings.{records_as}
use Rattle.csv_rows.specs.declared.cleaning.Reading.{Reading}
use Rattle.row_blocks.specs.Blocks.{Table}
use Rattle.row_windows.specs.Seams.{BeginsLine}
use Rattle.row_windows.specs.Stretch.{Fills, IsLongWindow, Stretch}
use Rattle.text_lines.specs.Feeds.{count_feeds}
use Rattle.gather_law.specs.Shares.{together}
use Rattle.stream_groups.specs.Begins.{AllCut, feeds_of}
use Rattle.stream_groups.specs.Reading.{AddsPiece, HasPart, HasRead, IsFilledBatch, IsLike, MeetsLong, Reaches, line_records}
use Rattle.stream_groups.specs.declared.batch.Batch.{Batch}
use Rattle.stream_groups.proofs.Feeds.{feeds_more, feeds_none}
use Rattle.stream_groups.proofs.Parts.{part_longer, part_more, part_none}
use Rattle.stream_groups.proofs.Windows.{begins_longer, filled}

-- what is read on into the rest is read
pub read_longer : (reading : Reading) (from old new : Option (List ℕ)) (records : Table) (feeds : ℕ) (was rest : List ℕ) → HasRead reading from old records feeds was → Fills old new was rest → HasRead reading from new records feeds rest
read_longer reading None old new records feeds was rest read f = tt
read_longer reading (Some bytes) None new records feeds was rest read f = absurd read
read_longer reading (Some bytes) (Some old) None records feeds was rest read f = absurd f.1
read_longer reading (Some bytes) (Some old) (Some new) records feeds was rest read f =
    let left : was ++ old ≡ rest ++ new = ap (λ (l : List ℕ). was ++ l) f.1 ∙ (sym (append_assoc was f.0 new) ∙ ap (λ (l : List ℕ). l ++ new) (sym f.2)) in
    record {
      front = read.front;
      are = read.are ∙ ap (λ (l : List ℕ). read.front ++ l) left;
      is = read.is;
      feeds = read.feeds;
      whole = read.whole;
      begins = elim read.begins [ inl none ↦ inl none | inr line ↦ inr (subst BeginsLine (sym f.2) (begins_longer was f.0 line)) ];
      parts = read.parts ∙ ap (λ (l : List ℕ). records ++ records_as reading l) left;
    }

lines_more : (reading : Reading) (ws : List Stretch) (w : Stretch) → line_records reading (ws ++ w ∷ []) ≡ line_records reading ws ++ records_as reading w.lines
lines_more reading ws w =
    let of : Stretch → Table = λ w. records_as reading w.lines in
    ap together (map-append of ws (w ∷ [])) ∙ flat_map-append (λ (l : Table). l) (map of ws) (of w ∷ []) ∙ ap (λ (l : Table). line_records reading ws ++ l) (append-nil (of w))

-- more records after some
behind : (records lines more : Table) → (records ++ lines) ++ more ≡ records ++ (lines ++ more)
behind records lines more = append_assoc records lines more

-- a window like one that is like another
like_then : (a b c : Stretch) → IsLike a b → IsLike b c → IsLike a c
like_then a b c f g = record { header = g.header ∙ f.header; reading = g.reading ∙ f.reading }

-- no windows so far
pub none_filled : (old : Option (List ℕ)) (was : Stretch) (feeds : ℕ) (b : Batch) → b.pieces.items ≡ [] → b.next ≡ was → was.lines ≡ [] → b.before ≡ feeds → b.feeds ≡ feeds → feeds ≤ 2 ^ 60 → IsFilledBatch old old was feeds b false
none_filled old was feeds b none next lines before same few_feeds =
    let rest : was.rest ≡ b.next.rest = sym (ap (λ (w : Stretch). w.rest) next) in
    record {
      before = before;
      counted = omega (arith, same, feeds_none b.pieces.items none);
      few_feeds = omega (arith, same, few_feeds);
      few = omega (arith, ap length none);
      like = record { header = ap (λ (w : Stretch). w.header) next; reading = ap (λ (w : Stretch). w.reading) next };
      lines = ap (λ (w : Stretch). w.lines) next ∙ lines;
      likes = subst (All (IsLike was)) (sym none) (All-nil (IsLike was));
      begins = λ _. subst (All (λ (w : Stretch). BeginsLine w.lines)) (sym none) (All-nil (λ (w : Stretch). BeginsLine w.lines));
      cut = λ _. subst AllCut (sym none) (All-nil (λ (w : Stretch). IsCut w.lines));
      reads = λ from records read.
          let all : records ++ line_records was.reading b.pieces.items ≡ records = ap (λ (l : List Stretch). records ++ line_records was.reading l) none ∙ append-nil records in
          let here : HasRead was.reading from old records b.feeds b.next.rest =
          subst (HasRead was.reading from old records b.feeds) rest (subst (λ (n : ℕ). HasRead was.reading from old records n was.rest) (sym same) read) in
          record { all = λ e. cc e; more = λ _. subst (λ (l : Table). HasRead was.reading from old l b.feeds b.next.rest) (sym all) here };
      part = λ from records line read.
          subst (λ (ps : List Stretch). HasPart was.reading from old records feeds ps b.next.rest) (sym none)
          (subst (HasPart was.reading from old records feeds []) rest (part_none was.reading from old records feeds was.rest line read));
      line = λ begins _. subst BeginsLine rest begins;
      end = λ e. cc e;
    }

module _ (old mid new : Option (List ℕ)) (was : Stretch) (feeds : ℕ) (b now : Batch) (f : IsFilledBatch old mid was feeds b false) where
  -- one window more
  pub one_filled : (is_last : Bool) → length now.pieces.items ≤ 64 → AddsPiece mid new b now is_last → IsFilledBatch old new was feeds now is_last
  one_filled is_last few a =
      let like : IsLike was a.piece = like_then was b.next a.piece f.like a.filled.like in
      let ps = b.pieces.items in
      let more : feeds_of now.pieces.items ≡ feeds_of ps + count_feeds a.piece.lines = ap feeds_of a.pieces ∙ feeds_more ps a.piece in
      record {
        before = a.before ∙ f.before;
        counted = omega (arith, a.feeds, f.counted, more);
        few_feeds = a.few;
        few = few;
        like = like_then was a.piece now.next like a.like;
        lines = a.lines;
        likes = All-same (IsLike was) now.pieces.items (ps ++ a.piece ∷ []) a.pieces (All-push (IsLike was) ps a.piece f.likes like);
        begins = λ begins. All-same (λ (w : Stretch). BeginsLine w.lines) now.pieces.items (ps ++ a.piece ∷ []) a.pieces
            (All-push (λ (w : Stretch). BeginsLine w.lines) ps a.piece (f.begins begins) (a.filled.line (f.line begins refl)));
        cut = λ e. All-same (λ (w : Stretch). IsCut w.lines) now.pieces.items (ps ++ a.piece ∷ []) a.pieces (All-push (λ (w : Stretch). IsCut w.lines) ps a.piece (f.cut refl) (a.filled.seam e).whole);
        reads = λ from records read.
            let r = was.reading in
            let before = records ++ line_records r ps in
            let more : HasRead r from mid before b.feeds b.next.rest = (f.reads from records read).more refl in
            let reaches : Reaches r from new (before ++ records_as r a.piece.lines) (b.feeds + count_feeds a.piece.lines) a.piece.rest is_last =
            filled r from mid new b.next.rest a.piece.lines a.piece.rest before b.feeds is_last more a.filled.reads a.filled.last a.filled.seam a.filled.line in
            let all : before ++ records_as r a.piece.lines ≡ records ++ line_records r now.pieces.items =
            behind records (line_records r ps) (records_as r a.piece.lines) ∙ ap (λ (l : Table). records ++ l) (sym (ap (line_records r) a.pieces ∙ lines_more r ps a.piece)) in
            subst (λ (l : Table). Reaches r from new l now.feeds now.next.rest is_last) all
            (subst (λ (t : List ℕ). Reaches r from new (before ++ records_as r a.piece.lines) now.feeds t is_last) (sym a.rest)
            (subst (λ (n : ℕ). Reaches r from new (before ++ records_as r a.piece.lines) n a.piece.rest is_last) (sym a.feeds) reaches));
        part = λ from records line read.
            let r = was.reading in
            let part : HasPart r from new records feeds (ps ++ a.piece ∷ []) a.piece.rest =
            part_more r from mid new records feeds ps a.piece b.next.rest is_last (f.part from records line read) (f.cut refl) a.filled.reads a.filled.last a.filled.seam in
            subst (HasPart r from new records feeds now.pieces.items) (sym a.rest) (subst (λ (l : List Stretch). HasPart r from new records feeds l a.piece.rest) (sym a.pieces) part);
        line = λ begins e. subst BeginsLine (sym a.rest) (a.filled.seam e).line;
        end = λ e. (a.filled.last e).1;
      }

  -- no more, since what comes next is too long
  pub long_filled : MeetsLong mid new b now → IsFilledBatch old new was feeds now false
  long_filled m =
      let items : now.pieces.items ≡ b.pieces.items = ap (λ (v : Vec Stretch). v.items) m.pieces in
      record {
        before = m.before ∙ f.before;
        counted = omega (arith, m.feeds, f.counted, ap feeds_of items);
        few_feeds = omega (arith, m.feeds, f.few_feeds);
        few = omega (arith, ap length items, f.few);
        like = like_then was b.next now.next f.like (record { header = m.next.header; reading = m.next.reading });
        lines = m.next.lines;
        likes = subst (All (IsLike was)) (sym items) f.likes;
        begins = λ begins. subst (All (λ (w : Stretch). BeginsLine w.lines)) (sym items) (f.begins begins);
        cut = λ _. subst AllCut (sym items) (f.cut refl);
        reads = λ from records read.
            let r = was.reading in
            let before = records ++ line_records r b.pieces.items in
            let more : HasRead r from mid before b.feeds b.next.rest = (f.reads from records read).more refl in
            let longer : HasRead r from new before b.feeds now.next.rest = read_longer r from mid new before b.feeds b.next.rest now.next.rest more m.next.reads in
            let here : HasRead r from new before now.feeds now.next.rest = subst (λ (n : ℕ). HasRead r from new before n now.next.rest) (sym m.feeds) longer in
            record { all = λ e. cc e; more = λ _. subst (λ (l : List Stretch). HasRead r from new (records ++ line_records r l) now.feeds now.next.rest) (sym items) here };
        part = λ from records line read.
            subst (λ (l : List Stretch). HasPart was.reading from new records feeds l now.next.rest) (sym items)
            (part_longer was.reading from mid new records feeds b.pieces.items b.next.rest now.next.rest (f.part from records line read) m.next.reads);
        line = λ begins _. subst BeginsLine (sym m.next.reads.2) (begins_longer b.next.rest m.next.reads.0 (f.line begins refl));
        end = λ e. cc e;
      }

-- a window that was too long, without one before it
pub no_items : (b now : Batch) → now.pieces ≡ b.pieces → now.pieces.items ≡ [] → b.pieces.items ≡ []
no_items b now same none = sym (ap (λ (v : Vec Stretch). v.items) same) ∙ none

pub first_long : (old mid new : Option (List ℕ)) (was : Stretch) (feeds : ℕ) (b now : Batch) → IsFilledBatch old mid was feeds b false → mid ≡ old → b.next.rest ≡ was.rest → MeetsLong mid new b now → IsLongWindow old new was now.next
first_long old mid new was feeds b now f here rest m = record {
  reading = m.next.reading ∙ f.like.reading;
  header = m.next.header ∙ f.like.header;
  lines = m.next.lines;
  reads = subst (λ (o : Option (List ℕ)). Fills o new was.rest now.next.rest) here (subst (λ (r : List ℕ). Fills mid new r now.next.rest) rest m.next.reads);
  long = m.next.long;
}
