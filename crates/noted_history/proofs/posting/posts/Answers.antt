-- A call that posts has one list.
use Rattle.std.proofs.Common.{map, ap}
use Rattle.verbs_types.specs.declared.request.Item.TheVariants.{Request as TheRequest, Receive as TheReceive}
use Rattle.noted_history.specs.Posting.{list_of}
use Rattle.noted_history.proofs.posting.posts.Goals as goal

pub returns-in-Post : goal.returns-in-Post
returns-in-Post c = (map TheRequest c.in-Post.requests, ap list_of c.in-Post.is)

pub returns-in-Recv : goal.returns-in-Recv
returns-in-Recv c = (map TheReceive c.in-Recv.receives, ap list_of c.in-Recv.is)
