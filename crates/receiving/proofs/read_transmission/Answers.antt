use mathlib.Core.Path.{sym, ◌∙◌}
use native.Mathlib.Omega.{arith}
use lib.ListN.{length}
use lib.Seq.{length-take-le}
use Rattle.std.proofs.lemmas.Result.{err_from_is_err_and}
use Rattle.transmission.proofs.AnswerLaws.{answered-ok, answered-err}
use Rattle.receiving.proofs.AnswerLaws.{start-most, start-found, count_fits, there_all, count-those, those-in, laid_in}
use Rattle.receiving.proofs.AnswerLaws.{room-short, phasing-not-found, phasing-found, refusal-read, symbols-read}
use Rattle.receiving.proofs.read_transmission.Goals as goal

pub returns-then-room-lt-LONGEST : goal.returns-then-room-lt-LONGEST
returns-then-room-lt-LONGEST c = let s = c.args in
    let r = refusal-read s.characters.now s.room.now _ (room-short _ (length s.room.now) c.if-room-lt-LONGEST.true) in
    record { value = r.0; room_written = r.1 }

pub returns-in_default : goal.returns-in_default
returns-in_default c = let s = c.args in
    let r = refusal-read s.characters.now s.room.now _ (phasing-not-found _ (length s.room.now) c.if-room-lt-LONGEST.false c.in_default.ensures) in
    record { value = r.0; room_written = r.1 }

pub read_symbols-requires : goal.read_symbols-requires
read_symbols-requires c = omega (arith, start-found _ _ c.in-Some.ensures, start-most c.args.characters.now)

pub slice_bounds-all-end : goal.slice_bounds-all-end
slice_bounds-all-end c = there_all _ _ _ _ c.read_symbols.ensures c.count_of-count.ensures

pub slice_bounds-symbols-end : goal.slice_bounds-symbols-end
slice_bounds-symbols-end c = sym (length-take-le _ _ (there_all _ _ _ _ c.read_symbols.ensures c.count_of-count.ensures))

pub judge_copies-requires : goal.judge_copies-requires
judge_copies-requires c = let place = start-found _ _ c.in-Some.ensures in
    (place, those-in _ _ _ _ c.read_symbols.ensures c.count_of-count.ensures place)

pub returns-in_err-judge_copies : goal.returns-in_err-judge_copies
returns-in_err-judge_copies c = let s = c.args in
    let there = phasing-found _ (length s.room.now) c.if-room-lt-LONGEST.false _ c.in-Some.ensures in
    let p = err_from_is_err_and c.from_residual.result c.from_residual.ensures.1 in
    let r = refusal-read s.characters.now s.room.now _ (there ∙ answered-err _ _ _ (sym c.in_err-judge_copies.ensures)) in
    record { value = rw (p.1, p.2) r.0; room_written = r.1 }

pub slice_bounds-copy_from_slice-end : goal.slice_bounds-copy_from_slice-end
slice_bounds-copy_from_slice-end c = omega (arith, count_fits _ _ c.count_of-count.ensures)

pub slice_bounds-copy_from_slice-end-2 : goal.slice_bounds-copy_from_slice-end-2
slice_bounds-copy_from_slice-end-2 c =
    sym (length-take-le _ c.args.room.now (omega (arith, count_fits _ _ c.count_of-count.ensures)))

pub copy_from_slice-requires : goal.copy_from_slice-requires
copy_from_slice-requires c =
    length-take-le _ c.args.room.now (omega (arith, count_fits _ _ c.count_of-count.ensures))
    ∙ sym (length-take-le _ _ (there_all _ _ _ _ c.read_symbols.ensures c.count_of-count.ensures))

pub returns : goal.returns
returns c = let s = c.args in
    let place = start-found _ _ c.in-Some.ensures in
    let there = phasing-found _ (length s.room.now) c.if-room-lt-LONGEST.false _ c.in-Some.ensures in
    let e = there ∙ (answered-ok _ _ _ (sym c.in_ok-judge_copies.ensures)).0 in
    let all = c.read_symbols.ensures in
    let n = c.count_of-count.ensures in
    let r = symbols-read s.characters.now s.room.now e _ _ (count-those _ _ _ _ all n place) (laid_in _ _ _ _ all n place _ _ c.copy_from_slice.ensures.after) in
    record { value = r.0; room_written = r.1 }
