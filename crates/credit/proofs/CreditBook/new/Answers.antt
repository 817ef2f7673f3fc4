use Rattle.std.proofs.Common.{rules, ℕ, ◌≡◌, refl, get_or, map, ◌∙◌, arith, lit<}
use Rattle.credit.proofs.Maps.{serves_each, mapped_at}
use Rattle.credit.proofs.Lines.{within}
use Rattle.credit.proofs.CreditBook.new.Goals as goal

pub map-requires : goal.map-requires
map-requires g c = (lit< tt, (lit< tt, (lit< tt, serves_each c.capped.result tt 0 (λ k q. omega (arith, c.capped.ensures.value k)))))

pub returns : goal.returns
returns g c =
    let lines = c.map.result in
    let none : (k : ℕ) → get_or (map (λ l. l.loan) lines) k 0 ≡ 0 =
    λ k. mapped_at (λ l. l.loan) (λ _. 0) c.capped.result lines 16 (λ x y p q e. search rules) (omega arith) c.map.ensures.items k 0 in
    record {
      below = refl;
      limits = λ k. mapped_at (λ l. l.limit) (λ n. n) c.capped.result lines 16 (λ x y p q e. search rules) (omega arith) c.map.ensures.items k 0 ∙ c.capped.ensures.value k;
      loans = none;
      standing = λ st. record { below = st; own = record { lent = within lines; dry = λ k h. absurd (omega (arith, none k)) } };
    }
