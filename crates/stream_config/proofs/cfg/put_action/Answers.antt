-- The three lines follow one another.
use Rattle.stream_config.proofs.cfg.put_action.Goals as goal

pub returns-clause-lines : goal.returns-clause-lines
returns-clause-lines c =
    cc (c.word.ensures.word, c.in_ok-put_line.ensures.line, c.from.ensures, c.in_ok-put_number.ensures.line, c.from-2.ensures, c.in_ok-put_number-2.ensures.line)
