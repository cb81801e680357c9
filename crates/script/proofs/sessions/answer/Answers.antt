use Rattle.script.proofs.SessionLaws.{answer-as}
use Rattle.script.proofs.sessions.answer.Goals as goal

pub returns : goal.returns
returns c = let a = c.args in
    let h = c.handle-handled in
    let r = answer-as a.desk a.text c.line_of-line.result c.line_of-line.ensures h.result _ c.clock_of-clock.result c.due_of-due.result h.ensures.value h.ensures.room_written c.clock_of-clock.ensures c.due_of-due.ensures a.used c.put_reply-count.result c.no_text-text.result a.out.now _ c.no_text-text.ensures c.put_reply-count.ensures.value c.put_reply-count.ensures.out_after in
    record { value = r.0; out_after = r.1 }
