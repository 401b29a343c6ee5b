use Rattle.cqe_format.proofs.Grammar.{from_test, to_test}
use Rattle.cqe_format.proofs.completion.Cqe.is_completion.Goals as goal

pub returns : goal.returns
returns c =
    rw (c.is_known.ensures, c.is_send_opcode.ensures, c.is_only_where.ensures, c.is_only_where-2.ensures, c.is_only_where-3.ensures, c.is_only_where-4.ensures, c.is_only_where-5.ensures, c.is_only_where-6.ensures, c.is_only_where-7.ensures, c.has_srqn.ensures, c.has_imm.ensures, c.has_len.ensures, c.is_some.ensures, c.from_number.ensures, c.is_receive.ensures, c.is_error-error.ensures)
    (from_test c.args.self.now, to_test c.args.self.now)
