use Rattle.std.proofs.Common.{◌++◌, vec_items, ap, ◌∙◌}
use Rattle.files.proofs.Files.{cut_space}
use Rattle.files.proofs.write.append_record.Goals as goal

pub returns : goal.returns
returns c =
    let wrote = c.in_ok-size.ensures.answer in
    record { answer = (wrote.sized, c.in_ok-extend_from_slice.ensures.items ∙ ap (λ l. vec_items c.args.file.now ++ l) (cut_space c.in_ok-size.size _ _ _ wrote.after c.write_record.auto.space wrote.room)) }
