use Rattle.work_entries.specs.Send.{sent_of}
use Rattle.work_entries.proofs.laws.request_comes_back.Goals as goal

pub returns : goal.returns
returns c = c.decode_send.ensures.only (sent_of c.args.r.now c.args.index c.args.qpn) c.encode_send.ensures
