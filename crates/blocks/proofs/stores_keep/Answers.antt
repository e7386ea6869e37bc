-- `blocks::stores_keep` meets its contract. Assumes nothing.
use Rattle.blocks.proofs.KeepLaws.{put_large, give_large, put_slot_lem, give_slot, put_class, give_class, fresh_empty}
use Rattle.blocks.proofs.stores_keep.Goals as goal

pub returns : goal.returns
returns c =
    record {
      put_large = put_large;
      give_large = give_large;
      put_slot_lem = put_slot_lem;
      give_slot = give_slot;
      put_class = put_class;
      give_class = give_class;
      fresh_empty = fresh_empty;
    }
