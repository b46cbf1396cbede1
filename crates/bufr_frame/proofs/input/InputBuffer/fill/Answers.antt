use Rattle.std.proofs.Common.{◌≡◌, ◌≤◌, ◌∙◌, ◌+◌, ◌-◌, ◌<◌, vec_len, ℕ, [], ◌++◌, length, true, Err, ap, sym, refl, subst, arith, append-nil, slice_range, nat_eq}
use Rattle.std.proofs.KnownBytes.{Consumes-nil}
use Rattle.std.proofs.lemmas.Result.{err_from_is_err_and}
use Rattle.std.proofs.lemmas.Bool.{true≢false, eqb-true}
use Rattle.bufr_bits.specs.Prelude.{counted}
use Rattle.bufr_frame.specs.Prelude.{max_reads}
use Rattle.bufr_frame.proofs.FinderLemmas.{part-append, part-length, empty-of, asks-once, asks-none, slides-once, slides-none}
use Rattle.bufr_frame.proofs.input.InputBuffer.fill.Goals as goal

pub returns-in_err-slid-clause-fills : goal.returns-in_err-slid-clause-fills
returns-in_err-slid-clause-fills g c =
    let p = err_from_is_err_and c.from_residual.result c.from_residual.ensures.1 in
    let v = c.self.inside in
    let refused = c.in_err-slid.ensures.refused in
    let going = ap (λ s. s.ended) c.self.view_is ∙ c.requires.going in
    let few : v.reads < max_reads = omega (arith, c.self.invariant, c.if-self-eq-MAX_READS.false) in (
      [],
      record {
        read = Consumes-nil _;
        held = ap (λ l. slice_range l v.start v.filled) refused.2 ∙ ap (λ s. s.held) c.self.view_is ∙ sym (append-nil c.args.self.now.held);
        end = λ ended. absurd (true≢false (sym ended ∙ going));
        room = omega (arith, c.make_room.ensures.room, ap (λ s. s.room) c.self.view_is);
        ends = rw (p.1 ∙ ap Err (p.2 ∙ refused.0)) (refl, going, (ap (λ s. s.reads) c.self.view_is, few, omega (arith, refused.1, ap (λ s. s.room) c.self.view_is)));
      },
      omega arith,
    )

pub returns-in_err-n-clause-fills : goal.returns-in_err-n-clause-fills
returns-in_err-n-clause-fills g c =
    let p = err_from_is_err_and c.from_residual-in_err-n.result c.from_residual-in_err-n.ensures.1 in
    let v = c.self.inside in
    let start = v.start - c.in_ok-slid.slid in
    let filled = v.filled - c.in_ok-slid.slid in
    let free = c.in_ok-slid.ensures.free in
    let once = c.read_after.ensures.read in
    let out = rw c.in_err-n.was at once.1.outcome in
    let going = ap (λ s. s.ended) c.self.view_is ∙ c.requires.going in
    let none : filled + length once.0 ≡ filled = omega (arith, ap length out.1) in
    let E : ℕ → Type 0 = λ k. slice_range c.read_after.new.buffer.items start k ≡ c.args.self.now.held ++ once.0 in (
      once.0,
      record {
        read = once.1.read;
        held = subst E none (part-append c.make_room.new.octets.items c.read_after.new.buffer.items once.0 start filled (length once.0) (omega (arith, c.self.invariant))
            (omega (arith, free.1, c.make_room.new.octets.ok.0)) once.1.held
            ∙ ap (λ l. l ++ once.0) (c.in_ok-slid.ensures.held ∙ ap (λ s. s.held) c.self.view_is));
        end = λ ended. absurd (true≢false (sym ended ∙ going));
        room = omega (arith, c.make_room.ensures.room, c.read_after.ensures.room, ap (λ s. s.room) c.self.view_is);
        ends = rw (p.1 ∙ ap Err (p.2 ∙ out.0)) (out.1, going, ap (λ s. s.reads + 1) c.self.view_is);
      },
      omega (arith, ap length out.1),
    )

pub returns-clause-fills : goal.returns-clause-fills
returns-clause-fills g c =
    let v = c.self.inside in
    let start = v.start - c.in_ok-slid.slid in
    let filled = v.filled - c.in_ok-slid.slid in
    let free = c.in_ok-slid.ensures.free in
    let once = c.read_after.ensures.read in
    let out = rw c.in_ok-n.was at once.1.outcome in
    let zero : nat_eq c.in_ok-n.n 0 ≡ true → c.in_ok-n.n ≡ 0 = λ ended. eqb-true c.in_ok-n.n 0 ended in
    let E : ℕ → Type 0 = λ k. slice_range c.read_after.new.buffer.items start (filled + k) ≡ c.args.self.now.held ++ once.0 in (
      once.0,
      record {
        read = once.1.read;
        held = subst E (sym out.0) (part-append c.make_room.new.octets.items c.read_after.new.buffer.items once.0 start filled (length once.0) (omega (arith, c.self.invariant))
            (omega (arith, free.1, c.make_room.new.octets.ok.0)) once.1.held
            ∙ ap (λ l. l ++ once.0) (c.in_ok-slid.ensures.held ∙ ap (λ s. s.held) c.self.view_is));
        end = λ ended. out.1 (zero ended);
        room = omega (arith, c.make_room.ensures.room, c.read_after.ensures.room, ap (λ s. s.room) c.self.view_is);
        ends = (ap (λ s. s.reads + 1) c.self.view_is, (λ ended. empty-of once.0 (sym out.0 ∙ zero ended)), (λ none. rw (out.0 ∙ ap length none) refl));
      },
      omega (arith, out.0, c.in_ok-n.ensures.fits, c.min-to.ensures),
    )

pub returns-then-self-eq-MAX_READS-clause-asked : goal.returns-then-self-eq-MAX_READS-clause-asked
returns-then-self-eq-MAX_READS-clause-asked g c = asks-none _ c.args.self.now.reads _ _ refl

pub returns-in_err-slid-clause-asked : goal.returns-in_err-slid-clause-asked
returns-in_err-slid-clause-asked g c = asks-none _ c.args.self.now.reads _ _ (ap (λ s. s.reads) c.self.view_is)

pub returns-in_err-n-clause-asked : goal.returns-in_err-n-clause-asked
returns-in_err-n-clause-asked g c =
    let v = c.self.inside in
    let start = v.start - c.in_ok-slid.slid in
    let filled = v.filled - c.in_ok-slid.slid in
    let free = c.in_ok-slid.ensures.free in
    let len = c.read_after.ensures.len in
    let long : length c.args.self.now.held ≡ v.filled - v.start = sym (ap (λ s. length s.held) c.self.view_is)
    ∙ part-length v.octets.items v.start v.filled (omega (arith, c.self.invariant, v.octets.ok.0)) in
    let held = part-length c.read_after.new.buffer.items start filled (omega (arith, free.1, len, c.read_after.new.buffer.ok.0)) in
    c.read_after.ensures.asked
    ∙ ap (counted (g.R.Source.asked c.args.r.now)) (asks-once c.args.most _ _ _ _ _ filled c.len.result 0 _ (ap (λ s. s.reads) c.self.view_is)
    (held ∙ omega (arith, long, free.0, c.self.invariant)) (omega (arith, free.1, len)) c.min-to.ensures)

pub returns-clause-asked : goal.returns-clause-asked
returns-clause-asked g c =
    let v = c.self.inside in
    let start = v.start - c.in_ok-slid.slid in
    let filled = v.filled - c.in_ok-slid.slid in
    let free = c.in_ok-slid.ensures.free in
    let n = c.in_ok-n.n in
    let len = c.read_after.ensures.len in
    let fits : filled + n ≤ vec_len c.read_after.new.buffer = omega (arith, c.in_ok-n.ensures.fits, c.min-to.ensures, len) in
    let long : length c.args.self.now.held ≡ v.filled - v.start = sym (ap (λ s. length s.held) c.self.view_is)
    ∙ part-length v.octets.items v.start v.filled (omega (arith, c.self.invariant, v.octets.ok.0)) in
    let held = part-length c.read_after.new.buffer.items start (filled + n) (omega (arith, fits, c.read_after.new.buffer.ok.0)) in
    c.read_after.ensures.asked
    ∙ ap (counted (g.R.Source.asked c.args.r.now)) (asks-once c.args.most _ _ _ _ _ filled c.len.result n _ (ap (λ s. s.reads) c.self.view_is)
    (held ∙ omega (arith, long, free.0, free.1, c.self.invariant)) (omega (arith, fits, len)) c.min-to.ensures)

pub returns-then-self-eq-MAX_READS-clause-slides : goal.returns-then-self-eq-MAX_READS-clause-slides
returns-then-self-eq-MAX_READS-clause-slides g c = slides-none c.args.self.now.reads _ _ _ _ refl refl

pub returns-in_err-slid-clause-slides : goal.returns-in_err-slid-clause-slides
returns-in_err-slid-clause-slides g c = slides-none c.args.self.now.reads _ _ _ _ (ap (λ s. s.reads) c.self.view_is) (ap (λ s. s.gap) c.self.view_is)

pub returns-in_err-n-clause-slides : goal.returns-in_err-n-clause-slides
returns-in_err-n-clause-slides g c =
    let v = c.self.inside in
    let long : length c.args.self.now.held ≡ v.filled - v.start = sym (ap (λ s. length s.held) c.self.view_is)
    ∙ part-length v.octets.items v.start v.filled (omega (arith, c.self.invariant, v.octets.ok.0)) in
    slides-once c.args.self.now.reads _ _ _ _ _ _ (ap (λ s. s.reads + 1) c.self.view_is) long (sym (ap (λ s. s.gap) c.self.view_is)) c.in_ok-slid.ensures.slides

pub returns-clause-slides : goal.returns-clause-slides
returns-clause-slides g c =
    let v = c.self.inside in
    let long : length c.args.self.now.held ≡ v.filled - v.start = sym (ap (λ s. length s.held) c.self.view_is)
    ∙ part-length v.octets.items v.start v.filled (omega (arith, c.self.invariant, v.octets.ok.0)) in
    slides-once c.args.self.now.reads _ _ _ _ _ _ (ap (λ s. s.reads + 1) c.self.view_is) long (sym (ap (λ s. s.gap) c.self.view_is)) c.in_ok-slid.ensures.slides
