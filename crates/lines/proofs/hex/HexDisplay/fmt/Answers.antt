use Rattle.std.proofs.Common.{◌≡◌, ◌/◌, ◌%◌, get_or, refl, arith, rules}
use Rattle.std.proofs.Output.{has_written_of_eq, has_written_append}
use Rattle.std.specs.Fmt.{digit_glyph}
use Rattle.std.specs.Prelude.{true, false}
use Rattle.lines.proofs.Digits.{byte_digits}
use Rattle.lines.proofs.hex.HexDisplay.fmt.Goals as goal

pub loop-byte-preserved : goal.loop-byte-preserved
loop-byte-preserved g c plain =
    let s = c.args.self.now.0.now in
    let i = c.loop-byte.byte-index in
    let b = get_or s i 0 in
    let high : c.unwrap-high.result ≡ digit_glyph false (b / 16) = search rules in
    let low : c.unwrap-low.result ≡ digit_glyph false (b % 16) = search rules in
    let before = c.loop-byte.invariant plain in
    has_written_of_eq _ _ _ _ _ (byte_digits s i _ _ c.loop-byte-test.true (omega arith) high low) (has_written_append _ _ _ _ _ _ before (c.in_ok-write.ensures.writes before.plain (refl {a = true})))
