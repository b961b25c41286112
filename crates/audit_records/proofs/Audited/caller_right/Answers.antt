-- By its code the place is a call, which has three bytes and pops its procedure's parameters; by its depth it is an instruction.
use Rattle.std.proofs.Common.{◌≡◌, arith}
use Rattle.std.proofs.lemmas.Bool.Decides.{nat_tests}
use Rattle.model.specs.File.{byte_at}
use Rattle.laws_file.specs.Codes.{call-after}
use Rattle.audit_records.specs.Records.{call-pops, is_call, not_call}
use Rattle.audit_records.proofs.Audited.caller_right.Goals as goal

pub returns-then-here-frame : goal.returns-then-here-frame
returns-then-here-frame c =
    let f = c.args.self.now.passed.file.now in
    let call = c.args.call in
    let shows = c.args.self.now.passed.ready.shows in
    let head = c.requires.0 in
    let here = c.at-here.ensures in
    λ lm lp. grind (
      arith,
      nat_tests,
      call-after f call,
      call-pops f call,
      λ (b : byte_at f call ≡ 72). is_call f call b _ shows,
      not_call f call,
      c.byte_at.ensures.is,
      head.a_is,
      head.b_is,
      here.main.is,
      here.ptr.is,
    )

pub returns-else-here-frame : goal.returns-else-here-frame
returns-else-here-frame c =
    let f = c.args.self.now.passed.file.now in
    let call = c.args.call in
    let head = c.requires.0 in
    let here = c.at-here.ensures in
    λ lm lp. grind (arith, nat_tests, call-after f call, call-pops f call, not_call f call, c.byte_at.ensures.is, head.a_is, head.b_is, here.main.is, here.ptr.is)
