use Rattle.std.proofs.Common.{◌∙◌}
use Rattle.tz_gen.specs.Generated.{text_lines}
use Rattle.tz_gen.proofs.LineLemmas.{four_put, put_first}
use Rattle.tz_gen.proofs.text.generated_text.Goals as goal

pub returns : goal.returns
unfolding text_lines
returns c =
    c.from_vec.ensures ∙ put_first _ _ _ c.new-out.ensures.items
    (four_put _ _ _ _ _ _ _ _ _ c.in_ok-put_numbered.ensures c.in_ok-put_line.ensures c.in_ok-put_line-2.ensures c.in_ok-put_zones.ensures)
