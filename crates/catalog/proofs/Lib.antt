-- Laws of the relations and of the frames in memory.
pub mod RelationLaws
pub mod TableLaws
pub mod FrameLaws
pub mod ItemLaws
pub mod ViewParts
pub mod WrittenParts
pub mod PartsRead
pub mod FileLaws
pub mod KindNumbers
