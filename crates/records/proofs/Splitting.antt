-- No record's bytes begin another's, so that a file splits in one way.
use Rattle.std.proofs.Common.{◌≡◌, ℕ, ◌+◌, cond, eqb, List, ◌++◌, length, get_or, drop, sym, refl, ap, ◌∙◌, subst, arith, drop-cons}
use Rattle.layout.specs.declared.kind.Kind.{Kind}
use Rattle.layout.specs.declared.kind.Kind.TheVariants.{Opening, Fund, Draw, Submit, Activate, Withdraw, Reprioritise, Run, Show, Close}
use Rattle.layout.specs.declared.fault.ReadFault.TheVariants.{UnknownLetter, CutBody}
use Rattle.layout.specs.Layout.{letter_of, widths, body_of}
use Rattle.layout.specs.Records.{Plain, packed, encode, Sound}
use Rattle.records.specs.Reading.{Stands}
use Rattle.records.specs.Laws.{OneStands, NoneStands}
use Rattle.records.proofs.Packing.{length-packed, packed_same}

-- the kind of a letter
abbrev kind_from : ℕ → Kind
kind_from n = cond (eqb n 79) Opening (cond (eqb n 70) Fund (cond (eqb n 68) Draw (cond (eqb n 83) Submit (cond (eqb n 65) Activate (cond (eqb n 87) Withdraw (cond (eqb n 76) Reprioritise (cond (eqb n 82) Run (cond (eqb n 66) Show Close))))))))

kind_back : (k : Kind) → kind_from (letter_of k) ≡ k
kind_back Opening = refl
kind_back Fund = refl
kind_back Draw = refl
kind_back Submit = refl
kind_back Activate = refl
kind_back Withdraw = refl
kind_back Reprioritise = refl
kind_back Run = refl
kind_back Show = refl
kind_back Close = refl

same_kind : (k l : Kind) → letter_of k ≡ letter_of l → k ≡ l
same_kind k l e = sym (kind_back k) ∙ ap kind_from e ∙ kind_back l

-- two records of one kind
same_plain : (p q : Plain) (s t : List ℕ) → p.kind ≡ q.kind → Sound p → Sound q → packed (widths p.kind) p.values ++ s ≡ packed (widths q.kind) q.values ++ t → (p ≡ q) × (s ≡ t)
same_plain p q s t is hp hq e =
    let fit : Sound (record { kind = p.kind; values = q.values }) = subst (λ (k : Kind). Sound (record { kind = k; values = q.values })) (sym is) hq in
    let same = packed_same (widths p.kind) p.values q.values s t hp fit (e ∙ ap (λ k. packed (widths k) q.values ++ t) (sym is)) in
    ((λ i. record { kind = is i; values = same.0 i }), same.1)

-- what begins with the bytes of two records begins with one record
pub prefix : (p q : Plain) (s t : List ℕ) → Sound p → Sound q → encode p ++ s ≡ encode q ++ t → (p ≡ q) × (s ≡ t)
prefix p q s t hp hq e = same_plain p q s t (same_kind _ _ (ap (λ l. get_or l 0 0) e)) hp hq (ap (drop 1) e)

pub one_stands : OneStands
one_stands s at p q m n hp hq =
    let same = (prefix p q _ _ hp.sound hq.sound (sym hp.bytes ∙ hq.bytes)).0 in
    (same, hp.after ∙ ap (λ x. at + length (encode x)) same ∙ sym hq.after)

-- the letter of the record that stands at a place
letter_at : (s : List ℕ) (at : ℕ) (p : Plain) (next : ℕ) → Stands s at p next → letter_of p.kind ≡ get_or s at 0
letter_at s at p next h = sym (ap (λ l. get_or l 0 0) (sym (drop-cons s at 0 (omega (arith, h.after, h.within))) ∙ h.bytes))

pub none_stands : NoneStands
none_stands s at (UnknownLetter place) h p next st = h.unknown refl p.kind (letter_at s at p next st)
none_stands s at (CutBody place) h p next st =
    let cut = h.cut refl in
    let same : cut.0 ≡ p.kind = same_kind _ _ (cut.1 ∙ sym (letter_at s at p next st)) in
    omega (arith, cut.2, ap body_of same, length-packed (widths p.kind) p.values st.sound, st.after, st.within)
