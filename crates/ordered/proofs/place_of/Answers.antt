use Rattle.std.proofs.Common.{◌≡◌, true, false, sym, ◌∙◌, refl, rules}
use Rattle.std.proofs.lemmas.Iterator.{YieldsList-from_slice, IsFirst-from_position, index_from_first}
use Rattle.ordered.specs.Order.{ahead}
use Rattle.ordered.proofs.place_of.Goals as goal

pub returns-clause-value : goal.returns-clause-value
returns-clause-value g c =
    let p = g.T.Ranked.precedes in
    let x = c.args.incoming.now in
    let first = IsFirst-from_position _ _ c.position.result (λ y. p x y ≡ true) (λ y. p x y ≡ false) c.position.ensures.ran (YieldsList-from_slice c.args.row.now (cc)) (λ y q k. search rules) (λ y q k. search rules) in
    c.unwrap_or.ensures ∙ sym (index_from_first (ahead p x) (λ y. p x y ≡ true) (λ y. p x y ≡ false) refl (λ y ys e. rw e) (λ y ys e. rw e (search rules)) _ _ first)
