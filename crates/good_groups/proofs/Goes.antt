-- What a text that is being sifted is after a piece more.
use Rattle.std.proofs.Common.{◌≡◌, ◌<◌, ◌++◌, ◌∙◌, ℕ, Bool, true, false, List, [], ◌∷◌, Option, None, Some, ap, length, refl, subst, sym}
use Rattle.std.specs.Prelude.{if◌then◌else◌, is_some, option_map}
use Rattle.std.specs.Io.KnownBytes.{Consumes, Keeps, prepend_known}
use Rattle.par_io.specs.Faults.{one_more}
use Rattle.csv_rows.specs.declared.cleaning.Reading.{Reading}
use Rattle.row_blocks.specs.Blocks.{Table}
use Rattle.row_windows.specs.declared.window.TheConstants.{MOST_RECORD_BYTES}
use Rattle.stream_groups.specs.Reading.{HasRead}
use Rattle.good_groups.specs.Counted.{HasTooMany}
use Rattle.good_groups.specs.Opened.{Opened}
use Rattle.good_groups.specs.Sifting.{GoesOn, IsHalted, IsOpen, rest_left, sifter_left, sifting_left}
use Rattle.good_groups.specs.declared.sieve.Sifting.{Sifting}
use Rattle.good_groups.specs.declared.sifter.Halt.{Halt}
use Rattle.good_groups.specs.declared.sifter.Halt.TheVariants as halt
use Rattle.good_groups.specs.declared.sifter.Rules.{Rules}
use Rattle.good_groups.specs.declared.sifter.Sifter.{Sifter}

pub keeps_same : (x y : Option (List ℕ)) → x ≡ y → Keeps x y
keeps_same None y is = tt
keeps_same (Some x) None is = let bad = is in cc bad
keeps_same (Some x) (Some y) is = cc is

keeps_then : (x y z : Option (List ℕ)) → Keeps x y → Keeps y z → Keeps x z
keeps_then None y z f g = tt
keeps_then (Some x) None z f g = absurd f
keeps_then (Some x) (Some y) None f g = absurd g
keeps_then (Some x) (Some y) (Some z) f g = g ∙ f

pub goes_then : (o : Opened) (r : Rules) (old mid new : Option (List ℕ)) (a b c : Sifting) → GoesOn o r old mid a b → GoesOn o r mid new b c → GoesOn o r old new a c
goes_then o r old mid new a b c f g = record {
  keeps = keeps_then (sifting_left r old a) (sifting_left r mid b) (sifting_left r new c) f.keeps g.keeps;
  is = λ s. g.is (f.is s);
}

pub goes_none : (o : Opened) (r : Rules) (left : Option (List ℕ)) (a : Sifting) → GoesOn o r left left a a
goes_none o r left a = record { keeps = keeps_same (sifting_left r left a) (sifting_left r left a) refl; is = λ s. s }

halted_by : (o : Opened) (why : Halt) (b : Sifting) → b.is_done ≡ false → (why ≡ halt.TooMany → (is_some b.sifter.tally.first ≡ true) × HasTooMany o) → (why ≡ halt.Long → MOST_RECORD_BYTES < length b.sifter.line.items) → IsHalted o (Some why) b
halted_by o halt.TooMany b going many long = many refl
halted_by o halt.Long b going many long = (going, long refl)
halted_by o halt.Memory b going many long = tt

module _ (o : Opened) (r : Rules) (old new : Option (List ℕ)) (a : Sifting) (going : a.is_done ≡ false) where
  going_left : (left : Option (List ℕ)) (b : Sifting) → b.is_done ≡ false → sifting_left r left b ≡ sifter_left r left b.sifter
  going_left left b is = ap (λ (d : Bool). if d then prepend_known b.sifter.ahead left else sifter_left r left b.sifter) is

  -- it goes no further
  pub halted_goes : (n : Sifter) (why : Halt) (b : Sifting) → b ≡ record a { sifter = n; halt = Some why; lacks = one_more a.lacks } → Keeps (sifter_left r old a.sifter) (sifter_left r new n) → (IsOpen o old r a.sifter → IsOpen o new r n)
      → (why ≡ halt.TooMany → is_some n.tally.first ≡ true) → (why ≡ halt.TooMany → IsOpen o old r a.sifter → HasTooMany o) → (why ≡ halt.Long → MOST_RECORD_BYTES < length n.line.items) → GoesOn o r old new a b
  halted_goes n why b is keeps opens known many long =
      let now : Sifting = record a { sifter = n; halt = Some why; lacks = one_more a.lacks } in
      subst (λ (x : Sifting). GoesOn o r old new a x) (sym is) (record {
        keeps = subst (λ x. Keeps x (sifting_left r new now)) (sym (going_left old a going)) (subst (Keeps (sifter_left r old a.sifter)) (sym (going_left new now going)) keeps);
        is = λ s. record {
          going = λ _. opens (s.going going);
          done = λ e. let bad : true ≡ false = sym e ∙ going in cc bad;
          halted = halted_by o why now going (λ e. (known e, many e (s.going going))) long;
        };
      })

  -- it goes on
  pub sifted_goes : (n : Sifter) → a.halt ≡ None → Keeps (sifter_left r old a.sifter) (sifter_left r new n) → (IsOpen o old r a.sifter → IsOpen o new r n) → GoesOn o r old new a (record a { sifter = n })
  sifted_goes n free keeps opens =
      let now : Sifting = record a { sifter = n } in
      record {
        keeps = subst (λ x. Keeps x (sifting_left r new now)) (sym (going_left old a going)) (subst (Keeps (sifter_left r old a.sifter)) (sym (going_left new now going)) keeps);
        is = λ s. record {
          going = λ _. opens (s.going going);
          done = λ e. let bad : true ≡ false = sym e ∙ going in cc bad;
          halted = subst (λ h. IsHalted o h now) (sym free) (subst (λ h. IsHalted o h a) free s.halted);
        };
      }

-- ---- a piece of the source

back_is : (pending none : List ℕ) (xs ys : List ℕ) → none ≡ [] → xs ≡ pending ++ ys → none ++ xs ≡ pending ++ ys
back_is pending none xs ys is took = ap (λ (t : List ℕ). t ++ xs) is ∙ took

pub filled_left : (r : Rules) (old new : Option (List ℕ)) (s n : Sifter) → s.pending ≡ [] → n ≡ record s { pending = n.pending } → Consumes old new n.pending → Keeps (sifter_left r old s) (sifter_left r new n)
filled_left r None new s n none same took = tt
filled_left r (Some xs) None s n none same took = absurd took
filled_left r (Some xs) (Some ys) s n none same took =
    keeps_same (sifter_left r (Some xs) s) (sifter_left r (Some ys) n)
    (ap (λ (t : List ℕ). prepend_known s.ahead (option_map (rest_left r s) (Some t))) (back_is n.pending s.pending xs ys none took) ∙ ap (λ (x : Sifter). prepend_known x.ahead (option_map (rest_left r x) (Some (n.pending ++ ys)))) (sym same))

filled_read : (reading : Reading) (from old new : Option (List ℕ)) (records : Table) (feeds : ℕ) (line before pending : List ℕ) → before ≡ [] → Consumes old new pending → HasRead reading from (prepend_known before old) records feeds line → HasRead reading from (prepend_known pending new) records feeds line
filled_read reading None old new records feeds line before pending none took read = tt
filled_read reading (Some bytes) None new records feeds line before pending none took read = absurd read
filled_read reading (Some bytes) (Some xs) None records feeds line before pending none took read = absurd took
filled_read reading (Some bytes) (Some xs) (Some ys) records feeds line before pending none took read =
    subst (λ (t : List ℕ). HasRead reading (Some bytes) (Some t) records feeds line) (back_is pending before xs ys none took) read

pub filled_open : (o : Opened) (r : Rules) (old new : Option (List ℕ)) (s n : Sifter) → s.pending ≡ [] → n ≡ record s { pending = n.pending } → Consumes old new n.pending → IsOpen o old r s → IsOpen o new r n
filled_open o r old new s n none same took is =
    subst (λ (x : Sifter). IsOpen o new r x) (sym same) (record {
      rows = is.rows;
      counted = is.counted;
      begun = is.begun;
      cut = is.cut;
      few = is.few;
      read = filled_read o.query.reading o.from old new (o.header ∷ is.rows) s.tally.feeds s.line.items s.pending n.pending none took is.read;
    })
