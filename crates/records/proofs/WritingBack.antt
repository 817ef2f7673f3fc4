-- What is read is written out as it stood.
use Rattle.std.proofs.Common.{◌≡◌, ℕ, ◌+◌, ◌<◌, List, ◌++◌, length, take, drop, sym, refl, ap, ◌∙◌, arith, length-drop, Bor}
use Rattle.std.proofs.lemmas.List.{length-take-le, take_at}
use Rattle.layout.specs.declared.fault.WriteFault.{WriteFault}
use Rattle.layout.specs.declared.fault.WriteFault.TheVariants.{BadReference, ShortSpace}
use Rattle.layout.specs.declared.record.Record.{Record}
use Rattle.layout.specs.declared.record.Record.TheVariants.{Opening, Fund, Draw, Submit, Activate, Withdraw, Reprioritise, Run, Show, Close}
use Rattle.layout.specs.Layout.{widths, total}
use Rattle.layout.specs.Records.{plain, Sized, encode, size_of}
use Rattle.layout.specs.Faults.{write_number}
use Rattle.records.specs.Reading.{Stands, Lent}
use Rattle.records.specs.Writing.{Unwritten}
use Rattle.records.specs.Laws.{WritesWhatStood}
use Rattle.records.proofs.Packing.{length-packed}

size_stands : {s : List ℕ} (at : ℕ) (w : Record) (next : ℕ) → Stands s at (plain w) next → next ≡ at + 1 + total (widths (plain w).kind)
size_stands at w next st = omega (arith, st.after, length-packed (widths (plain w).kind) (plain w).values st.sound)

-- a reference that is lent from a file has its eight bytes
pub lent_sized : (file : Bor (List ℕ)) (at : ℕ) (w : Record) (next : ℕ) → Stands file.now at (plain w) next → Lent file (at + 13) w → Sized w
lent_sized file at (Opening account figure limit room) next st l = tt
lent_sized file at (Fund account amount) next st l = tt
lent_sized file at (Draw account amount) next st l = tt
lent_sized file at (Submit sender receiver amount priority flag reference) next st l =
    ap length l.0 ∙ length-take-le 8 _ (omega (arith, size_stands at (Submit sender receiver amount priority flag reference) next st, st.within, length-drop (at + 13) file.now))
lent_sized file at (Activate sender receipt) next st l = tt
lent_sized file at (Withdraw sender receipt) next st l = tt
lent_sized file at (Reprioritise sender receipt priority) next st l = tt
lent_sized file at Run next st l = tt
lent_sized file at Show next st l = tt
lent_sized file at Close next st l = tt

-- what is not written for another reason than its reference is not written for want of space
for_space : (w : Record) (old new : List ℕ) (f : WriteFault) → Sized w → Unwritten w old new f → (write_number f ≡ 13) × (length old < size_of (plain w))
for_space w old new BadReference sized un = absurd (un.reference refl sized)
for_space w old new ShortSpace sized un = (refl, (un.space refl).1)

pub writes_what_stood : WritesWhatStood
writes_what_stood file at w next st l =
    let long = size_stands at w next st in
    record {
      same = λ n old new wr. (omega (arith, wr.size), wr.after ∙ ap (λ t. t ++ drop n old) (sym (take_at (encode (plain w)) (drop next file.now) n (omega (arith, wr.size, st.after))) ∙ ap (take n) (sym st.bytes)));
      room = λ f old new un. let short = for_space w old new f (lent_sized file at w next st l) un in (short.0, omega (arith, short.1));
    }
